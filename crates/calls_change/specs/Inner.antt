-- NOTHING TO BELIEVE HERE: what the calls say in a layout, once its numbers are read; `length_call` and `change_call` (specs/Calls.antt) say the same in the layout of five numbers.
use Rattle.std.specs.Prelude.{List, ℕ}
use Rattle.ground.specs.Said.{Said, ◌>>=◌}
use Rattle.model.specs.declared.Layout.{Layout}
use Rattle.model.specs.declared.Refusal.{Refusal}
use Rattle.model.specs.Kinds.{kind_of}
use Rattle.change.specs.Change.{change_said}
use Rattle.change_length.specs.Needed.{bytes_needed}
use Rattle.answers.specs.Answers.{known}

-- how many bytes a change to a kind needs, by the kind's number
unfoldable pub needed_in : Layout → List ℕ → ℕ → Said Refusal ℕ
needed_in l s new = do
  m ← known (kind_of new)
  bytes_needed l s m

-- the file in a kind, by the kind's number
unfoldable pub change_in : Layout → List ℕ → ℕ → ℕ → Said Refusal (List ℕ)
change_in l s new room = do
  m ← known (kind_of new)
  change_said l s m room
