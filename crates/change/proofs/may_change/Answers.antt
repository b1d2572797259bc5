-- `change::may_change` meets its contract: what is needed, and then the room.
use Rattle.std.proofs.lemmas.Result.{err_from_is_err_and}
use Rattle.change.proofs.ChangeLaws.{change-needs}
use Rattle.change_length.proofs.LengthLaws.{needed-length}
use Rattle.change_length.specs.Needed.{bytes_needed}
use Rattle.model.proofs.AnswerLaws.{needed-told}
use Rattle.model.specs.Refusals.{FewBytes}
use Rattle.ground.specs.Said.{says, refuses}
use borrow.Author.Tests.{le-leb, lt-leb}
use Prim.Native.Nat.{◌<◌, ◌^◌}
use mathlib.Core.Path.{◌≡◌, sym, ◌∙◌, subst}
use Rattle.change.proofs.may_change.Goals as goal
use Rattle.change.proofs.may_change.Goals.{In_ok-size}

-- what is needed
told : (c : In_ok-size)
    → bytes_needed c.args.layout c.args.«data».now c.args.kind ≡ says c.in_ok-size.size
told c =
    needed-told (bytes_needed c.args.layout c.args.«data».now c.args.kind) (says c.in_ok-size.size) (sym c.bytes_needed.ensures.0 ∙ c.in_ok-size.was)

few : (c : In_ok-size) → c.in_ok-size.size < 2 ^ 32
few c = subst FewBytes c.in_ok-size.was c.bytes_needed.ensures.1

pub returns-then-room-size : goal.returns-then-room-size
returns-then-room-size c = (rw (c.refused.ensures, change-needs, told (goal.at.returns-then-room-size c).In_ok-size, lt-leb _ _ c.if-room-size.true), tt)

pub returns : goal.returns
returns c =
    let t = told (goal.at.returns c).In_ok-size in
    (rw (change-needs, t, le-leb _ _ c.if-room-size.false, ← needed-length c.args.layout c.args.«data».now c.args.kind c.in_ok-size.size t), few (goal.at.returns c).In_ok-size)

pub returns-in_err-size : goal.returns-in_err-size
returns-in_err-size c =
    let t = needed-told (bytes_needed c.args.layout c.args.«data».now c.args.kind) (refuses c.in_err-size.field-0.0) (sym c.bytes_needed.ensures.0 ∙ c.in_err-size.was) in
    let p = err_from_is_err_and c.from_residual.result c.from_residual.ensures.1 in
    rw (p.1, p.2) (rw (change-needs, t), tt)
