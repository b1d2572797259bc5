-- `change_length::decide_binary` meets its contract: the file's check, and then what fits.
use Rattle.std.proofs.lemmas.Result.{err_from_is_err_and}
use mathlib.Core.Path.{◌≡◌, sym, ◌∙◌}
use Rattle.ground.specs.Said.{says}
use Rattle.model.proofs.AnswerLaws.{yes-told, no-told}
use Rattle.binary_file.specs.Files.{check_binary}
use Rattle.change_length.proofs.BinaryLaws.{decided-binary}
use Rattle.change_length.proofs.decide_binary.Goals as goal
use Rattle.change_length.proofs.decide_binary.Goals.{In_ok-check_binary}

-- the file is accepted
fine : (c : In_ok-check_binary) → check_binary c.args.layout c.args.«data».now ≡ says tt
fine c = yes-told _ (sym c.check_binary.ensures ∙ c.in_ok-check_binary.was)

pub returns : goal.returns
returns c =
    (c.settle_binary.ensures.0 ∙ rw (decided-binary c.args.layout c.args.«data».now c.args.kind c.requires.1, fine (goal.at.returns c).In_ok-check_binary), c.settle_binary.ensures.1)

pub returns-in_err-check_binary : goal.returns-in_err-check_binary
returns-in_err-check_binary c =
    let l = c.args.layout in
    let file = c.args.«data».now in
    let told = no-told (check_binary l file) _ (sym c.check_binary.ensures ∙ c.in_err-check_binary.was) in
    let p = err_from_is_err_and c.from_residual.result c.from_residual.ensures.1 in
    rw (p.1, p.2) (rw (decided-binary l file c.args.kind c.requires.1, told), tt)
