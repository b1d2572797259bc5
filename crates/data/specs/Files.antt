-- Data files of every kind: what each call answers, in the paper's order of refusals.
use Rattle.std.specs.Prelude.{Bool, ◌&&◌, List, [], ◌++◌, ℕ, ◌+◌, ◌-◌, eqb, leb, length}
use Rattle.ground.specs.Said.{Said, says, ◌>>◌, must, answer_of}
use Rattle.ground.specs.Tables.{cat}
use Rattle.model.specs.declared.Layout.{Layout}
use Rattle.model.specs.declared.Row.{Row}
use Rattle.model.specs.declared.Refusal.{Refusal}
use Rattle.std.specs.Prelude.{Result}
use Rattle.model.specs.Layouts.{is_sized}
use Rattle.model.specs.Refusals.{refused}
use Rattle.model.specs.Rows.{misfit}
use Rattle.binary_file.specs.Files as binary_file
use Rattle.ascii_file.specs.Files as ascii_file
use Rattle.row_bytes.specs.Rows.{by_kind, bytes_of}

-- the file is fine
unfoldable pub file_fine : Layout → List ℕ → Said Refusal (Unit {0})
file_fine l s = by_kind l.kind (ascii_file.check_text l s) (binary_file.check_binary l s)

-- row i of a file, counted from 0
unfoldable pub row_at : Layout → List ℕ → ℕ → Row
row_at l s i = by_kind l.kind (ascii_file.text_row l i s) (binary_file.binary_row l i s)

-- there is a row n
unfoldable pub has_row : Layout → ℕ → Bool
has_row l n = leb 1 n && leb n l.rows

-- the first of row r's samples that does not fit the layout, or A; a missing one fits
unfoldable pub misfit_of : Layout → Row → ℕ
misfit_of l r = misfit l r.samples

-- whether a data file is accepted
unfoldable pub check_file : Layout → List ℕ → Result (Unit {0}) Refusal
check_file l s = answer_of (do
  must (is_sized l) (refused 10 0 0)
  file_fine l s)

-- row n of a data file
unfoldable pub show_row : Layout → List ℕ → ℕ → Result Row Refusal
show_row l s n = answer_of (do
  must (is_sized l) (refused 10 0 0)
  must (has_row l n) (refused 15 0 0)
  file_fine l s
  says (row_at l s (n - 1)))

-- writing row n: its bytes, where there is room for so many
unfoldable pub write_said : Layout → ℕ → Row → ℕ → Said Refusal (List ℕ)
write_said l n r room = do
  must (is_sized l) (refused 10 0 0)
  must (has_row l n) (refused 15 0 0)
  must (eqb (misfit_of l r) l.analogs) (refused 16 n (3 + misfit_of l r))
  must (leb (length (bytes_of l n r)) room) (refused 17 0 0)
  says (bytes_of l n r)

-- what follows the last row of a file that is written: the end mark of a text
unfoldable pub end_mark : Layout → List ℕ
end_mark l = by_kind l.kind ascii_file.mark []

-- the file whose rows are r 0, r 1, ..
unfoldable pub file_of : Layout → (ℕ → Row) → List ℕ
file_of l r = cat (λ i. bytes_of l (i + 1) (r i)) l.rows ++ end_mark l
