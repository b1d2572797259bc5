-- `show_binary` meets its contract: the row of a file that is fine, or what its check refuses.
use Rattle.binary_file.proofs.Laws.{whole}
use Rattle.binary_file.specs.Files.{check_binary}
use Rattle.model.proofs.AnswerLaws.{yes-told}
use Rattle.ground.specs.Said.{says}
use mathlib.Core.Path.{◌≡◌, sym, ◌∙◌}
use Rattle.data.proofs.show_binary.Goals as goal
use Rattle.data.proofs.show_binary.Goals.{In_ok-check_binary}

-- the file is fine
fine : (c : In_ok-check_binary) → check_binary c.args.layout c.args.«data».now ≡ says tt
fine c = yes-told _ (sym c.check_binary.ensures ∙ c.in_ok-check_binary.was)

pub row_at-requires : goal.row_at-requires
row_at-requires c =
    (c.requires.0, (whole c.args.layout c.args.«data».now (fine c)).0, c.requires.1)
