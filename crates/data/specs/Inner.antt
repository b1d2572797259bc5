-- NOTHING TO BELIEVE HERE: what the functions of one kind say; `show_row` is said without it.
use Rattle.std.specs.Prelude.{Result}
use Rattle.ground.specs.Said.{Said, says, ◌>>◌, answer_of}
use Rattle.model.specs.declared.Row.{Row}
use Rattle.model.specs.declared.Refusal.{Refusal}

-- the row of a file, or what its check refuses
abbrev pub shown : Said Refusal (Unit {0}) → Row → Result Row Refusal
shown fine r = answer_of (do
  fine
  says r)
