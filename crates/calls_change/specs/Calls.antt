-- The exported calls on a change of kind.
use Rattle.std.specs.Prelude.{List, ℕ}
use Rattle.ground.specs.Said.{Said, ◌>>=◌}
use Rattle.model.specs.declared.Refusal.{Refusal}
use Rattle.model.specs.Kinds.{kind_of}
use Rattle.change.specs.Change.{change_said}
use Rattle.change_length.specs.Needed.{bytes_needed}
use Rattle.answers.specs.Answers.{known, layout_of}

-- zl_length: how many bytes a change of kind needs
unfoldable pub length_call : ℕ → ℕ → ℕ → ℕ → ℕ → List ℕ → ℕ → Said Refusal ℕ
length_call a d rows kind edition s new = do
  l ← known (layout_of a d rows kind edition)
  m ← known (kind_of new)
  bytes_needed l s m

-- zl_change: the file in another kind; no room last of all
unfoldable pub change_call : ℕ → ℕ → ℕ → ℕ → ℕ → List ℕ → ℕ → ℕ → Said Refusal (List ℕ)
change_call a d rows kind edition s new room = do
  l ← known (layout_of a d rows kind edition)
  m ← known (kind_of new)
  change_said l s m room
