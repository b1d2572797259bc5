-- NOTHING TO BELIEVE HERE: what the calls say in a layout, once its numbers are read; `row_call` and `write_call` (specs/Calls.antt) say the same in the layout of five numbers.
use Rattle.std.specs.Prelude.{List, ℕ, ℤ}
use Rattle.ground.specs.Said.{Said, ◌>>=◌, answer_said}
use Rattle.model.specs.declared.Layout.{Layout}
use Rattle.model.specs.declared.Refusal.{Refusal}
use Rattle.data.specs.Files.{show_row, write_said}
use Rattle.row_places.specs.Rows.{places_of, row_places}
use Rattle.answers.specs.Answers.{placed}
use Rattle.calls_data.specs.Calls.{row_asked}

-- the places of row n
unfoldable pub row_in : Layout → List ℕ → ℕ → ℕ → Said Refusal (List ℤ)
row_in l s n room = do
  r ← answer_said (show_row l s n)
  placed (places_of l) (row_places l r) room

-- the bytes that row n is written in
unfoldable pub write_in : Layout → ℕ → List ℤ → ℕ → Said Refusal (List ℕ)
write_in l n zs room = do
  r ← row_asked l n zs
  write_said l n r room
