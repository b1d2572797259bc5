-- The exported calls on a data file.
use Rattle.std.specs.Prelude.{List, ℕ, ◌+◌, eqb, leb, ℤ, length}
use Rattle.ground.specs.Said.{Said, says, ◌>>=◌, ◌>>◌, must, answer_said}
use Rattle.model.specs.declared.Layout.{Layout}
use Rattle.model.specs.declared.Row.{Row}
use Rattle.model.specs.declared.Refusal.{Refusal}
use Rattle.model.specs.Layouts.{is_sized}
use Rattle.model.specs.Refusals.{refused}
use Rattle.data.specs.Files.{check_file, show_row, has_row, write_said}
use Rattle.row_places.specs.Rows.{places_of, row_places, unfit, row_of_places}
use Rattle.answers.specs.Answers.{layout_of, known, placed}

-- zl_check: whether a data file is accepted
unfoldable pub check_call : ℕ → ℕ → ℕ → ℕ → ℕ → List ℕ → Said Refusal ℕ
check_call a d rows kind edition s = do
  l ← known (layout_of a d rows kind edition)
  answer_said (check_file l s)
  says 0

-- zl_row: the places of row n; no room last of all
unfoldable pub row_call : ℕ → ℕ → ℕ → ℕ → ℕ → List ℕ → ℕ → ℕ → Said Refusal (List ℤ)
row_call a d rows kind edition s n room = do
  l ← known (layout_of a d rows kind edition)
  r ← answer_said (show_row l s n)
  placed (places_of l) (row_places l r) room

-- the row that places say: 10 for too few of them too, then 15, then 16 at the first that does not fit its field
unfoldable pub row_asked : Layout → ℕ → List ℤ → Said Refusal Row
row_asked l n zs = do
  must (is_sized l) (refused 10 0 0)
  must (leb (places_of l) (length zs)) (refused 10 0 0)
  must (has_row l n) (refused 15 0 0)
  must (eqb (unfit l zs) (places_of l)) (refused 16 n (2 + unfit l zs))
  says (row_of_places l zs)

-- zl_write_row: the bytes that row n is written in; no room last of all
unfoldable pub write_call : ℕ → ℕ → ℕ → ℕ → ℕ → ℕ → List ℤ → ℕ → Said Refusal (List ℕ)
write_call a d rows kind edition n zs room = do
  l ← known (layout_of a d rows kind edition)
  r ← row_asked l n zs
  write_said l n r room
