-- `change_length::decide_by_rows` meets its contract: the file's start, and then what the walk and its tally say.
use Rattle.std.proofs.lemmas.Result.{err_from_is_err_and}
use Rattle.change_length.proofs.TallyLaws.{decided-walk, walk-told, walk-refused}
use Rattle.change_length.specs.Inner.{tally_of}
use Rattle.model.specs.Layouts.{in_kind}
use Rattle.data.specs.Files.{row_at}
use Rattle.rows.specs.Inner.{start_fine, walk_fine}
use Rattle.model.proofs.AnswerLaws.{yes-told, no-told}
use Rattle.ground.specs.Said.{says}
use mathlib.Core.Path.{◌≡◌, sym, ◌∙◌}
use Rattle.change_length.proofs.decide_by_rows.Goals as goal
use Rattle.change_length.proofs.decide_by_rows.Goals.{In_ok-start_fine, In_ok-tally}

-- the file may be walked
walked : (c : In_ok-start_fine) → start_fine c.args.layout c.args.«data».now ≡ says tt
walked c = yes-told _ (sym c.start_fine.ensures ∙ c.in_ok-start_fine.was)

-- the rows are fine, and this is their tally
weighed : (c : In_ok-tally)
    → (walk_fine c.args.layout c.args.«data».now 1 c.args.layout.rows ≡ says tt)
    × (tally_of (in_kind c.args.kind c.args.layout) (row_at c.args.layout c.args.«data».now) c.args.layout.rows ≡ c.in_ok-tally.tally)
weighed c = walk-told _ _ _ (sym c.weigh_rows.ensures.0 ∙ c.in_ok-tally.was)

pub returns-in_err-start_fine : goal.returns-in_err-start_fine
returns-in_err-start_fine c =
    let told = no-told (start_fine c.args.layout c.args.«data».now) _ (sym c.start_fine.ensures ∙ c.in_err-start_fine.was) in
    let p = err_from_is_err_and c.from_residual.result c.from_residual.ensures.1 in
    rw (p.1, p.2) (rw (decided-walk c.args.layout c.args.«data».now c.args.kind, told), tt)

pub returns-in_err-tally : goal.returns-in_err-tally
returns-in_err-tally c =
    let told = walk-refused _ _ _ (sym c.weigh_rows.ensures.0 ∙ c.in_err-tally.was) in
    let p = err_from_is_err_and c.from_residual-in_err-tally.result c.from_residual-in_err-tally.ensures.1 in
    rw (p.1, p.2) (rw (decided-walk c.args.layout c.args.«data».now c.args.kind, walked (goal.at.returns-in_err-tally c).In_ok-start_fine, told), tt)

pub returns : goal.returns
returns c =
    let w = weighed (goal.at.returns c).In_ok-tally in (
      rw (c.settle.ensures.0, c.in_kind.ensures, decided-walk c.args.layout c.args.«data».now c.args.kind, walked (goal.at.returns c).In_ok-start_fine, w.0, w.1),
      c.settle.ensures.1,
    )
