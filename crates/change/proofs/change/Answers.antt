-- `change` meets its contract: what the answer says is written at the front, or nothing is.
use Rattle.change.proofs.ChangeLaws.{Changing, changing}
use Rattle.change_length.proofs.LengthLaws.{changed-length}
use Rattle.change.specs.Change.{change_said}
use Rattle.ground.proofs.SaidLaws.{filled-told}
use Rattle.model.proofs.AnswerLaws.{written-told}
use Rattle.model.specs.Refusals.{FewBytes}
use Rattle.ground.specs.Said.{says}
use lib.Seq.{length-take-le}
use lib.ListN.{length, take}
use native.Mathlib.Omega.{arith}
use Prim.Native.Nat.{ℕ, ◌≤◌}
use mathlib.Core.List.{List}
use mathlib.Core.Path.{◌≡◌, sym, ap, ◌∙◌, subst}
use Rattle.change.proofs.change.Goals as goal
use Rattle.change.proofs.change.Goals.{In_ok-size}

-- what is said: bytes, as many as the answer tells
told : (c : In_ok-size) → let x = change_said c.args.layout c.args.«data».now c.args.kind (length c.args.out.now) in
    (new : List ℕ) × (x ≡ says new) × (c.in_ok-size.size ≡ length new) × (Changing c.args.layout c.args.«data».now c.args.kind (length c.args.out.now) new)
told c =
    let x = change_said c.args.layout c.args.«data».now c.args.kind (length c.args.out.now) in
    let t = written-told x c.in_ok-size.size (sym c.may_change.ensures.0 ∙ c.in_ok-size.was) in
    (t.0, t.1, t.2, changing c.args.layout c.args.«data».now c.args.kind (length c.args.out.now) t.0 t.1)

within : (c : In_ok-size) → c.in_ok-size.size ≤ length c.args.out.now
within c = let t = told c in omega (arith, t.2, t.3.within)

-- as many bytes are lent
front : (c : In_ok-size) → length (take c.in_ok-size.size c.args.out.now) ≡ c.in_ok-size.size
front c = length-take-le c.in_ok-size.size c.args.out.now (within c)

pub slice_bounds-put_file-end : goal.slice_bounds-put_file-end
slice_bounds-put_file-end c = omega (arith, within (goal.at.slice_bounds-put_file-end c).In_ok-size)

pub slice_bounds-put_file-end-2 : goal.slice_bounds-put_file-end-2
slice_bounds-put_file-end-2 c = sym (length-take-le _ _ (omega (arith, within (goal.at.slice_bounds-put_file-end-2 c).In_ok-size)))

pub put_file-requires : goal.put_file-requires
put_file-requires c =
    let t = told (goal.at.put_file-requires c).In_ok-size in
    record { sized = (t.3.fit, t.3.fine); d_len = (front (goal.at.put_file-requires c).In_ok-size ∙ t.2 ∙ ap length t.3.bytes ∙ changed-length c.args.layout c.args.«data».now c.args.kind, t.3.all) }

pub returns : goal.returns
returns c =
    let t = told (goal.at.returns c).In_ok-size in record { value = (sym c.in_ok-size.was ∙ c.may_change.ensures.0, subst FewBytes c.in_ok-size.was c.may_change.ensures.1); out_after = filled-told _ t.0 _ _ _ t.1 (c.put_file.ensures ∙ sym t.3.bytes) t.2 }
