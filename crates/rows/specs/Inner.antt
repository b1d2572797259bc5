-- NOTHING TO BELIEVE HERE: a walk over a data file of any kind, row by row: what stands at a row, and what follows it. No public call cites it.
-- The laws `fine-walk` and `row-here` (proofs/WalkLaws.antt) say that the walk's verdict is `file_fine`, and its rows `row_at`.
use Rattle.std.specs.Prelude.{◌≡◌, List, ℕ, zero, suc, ◌+◌, ◌*◌, ◌≤◌, length, take, drop}
use Rattle.ground.specs.Said.{Said, says, ◌>>=◌, ◌>>◌}
use Rattle.model.specs.declared.Kind.TheVariants.{Ascii}
use Rattle.model.specs.declared.Layout.{Layout}
use Rattle.model.specs.declared.Row.{Row}
use Rattle.model.specs.declared.Refusal.{Refusal}
use Rattle.ascii_row.specs.Rows as ascii
use Rattle.binary_row.specs.Rows as binary
use Rattle.binary_file.specs.Files.{check_length}
use Rattle.ascii_file.specs.Files.{scan_row, line_taken, first_line, after_rows, take_row, check_end}
use Rattle.row_bytes.specs.Rows.{by_kind}

-- how many bytes the row takes with which t begins
unfoldable pub taken_here : Layout → List ℕ → ℕ
taken_here l t = by_kind l.kind (line_taken (scan_row t)) (binary.row_size l)

-- the row of a binary kind with which t begins
abbrev pub binary_here : Layout → List ℕ → Row
binary_here l t = binary.row_of l (take (binary.row_size l) t)

-- the row with which t begins
unfoldable pub row_here : Layout → List ℕ → Row
row_here l t = by_kind l.kind (ascii.row_of l (first_line t)) (binary_here l t)

-- there are as many bytes as a row of a binary kind has
abbrev pub HasRow : Layout → List ℕ → Type 0
HasRow l t = (l.kind ≡ Ascii → ⊥) → binary.row_size l ≤ length t

-- what follows the first i rows of s
unfoldable pub rest_of : Layout → List ℕ → ℕ → List ℕ
rest_of l s i = by_kind l.kind (after_rows i s) (drop (i * binary.row_size l) s)

-- row n of a binary kind, with which t begins, is fine
abbrev pub fine_here : Layout → ℕ → List ℕ → Said Refusal ℕ
fine_here l n t = do
  binary.check_row l n (take (binary.row_size l) t)
  says (binary.row_size l)

-- row n, with which t begins, is fine: how many bytes it takes
unfoldable pub check_here : Layout → ℕ → List ℕ → Said Refusal ℕ
check_here l n t = by_kind l.kind (take_row l n t) (fine_here l n t)

-- the file may be walked: one of the binary kinds has its length
unfoldable pub start_fine : Layout → List ℕ → Said Refusal (Unit {0})
start_fine l s = by_kind l.kind (says tt) (check_length l s)

-- what follows the last row, where row n would stand: an ending of a text
unfoldable pub end_fine : Layout → ℕ → List ℕ → Said Refusal (Unit {0})
end_fine l n t = by_kind l.kind (check_end n t) (says tt)

-- m rows, with which t begins, are fine from row n on, and then the end
unfoldable pub walk_fine : Layout → List ℕ → ℕ → ℕ → Said Refusal (Unit {0})
walk_fine l t n zero = end_fine l n t
walk_fine l t n (suc m) = do
  taken ← check_here l n t
  walk_fine l (drop taken t) (n + 1) m
