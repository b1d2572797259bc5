-- Files of the two binary kinds: exactly rows times row size, then row by row.
use Rattle.std.specs.Prelude.{List, ℕ, zero, suc, ◌+◌, ◌*◌, eqb, length}
use Rattle.ground.specs.Said.{Said, says, ◌>>◌, must}
use Rattle.ground.specs.Tables.{part}
use Rattle.model.specs.declared.Layout.{Layout}
use Rattle.model.specs.declared.Row.{Row}
use Rattle.model.specs.declared.Refusal.{Refusal}
use Rattle.model.specs.Refusals.{refused}
use Rattle.binary_row.specs.Rows.{row_size, check_row, row_of}

-- the bytes of row i, counted from 0
abbrev pub row_bytes : Layout → ℕ → List ℕ → List ℕ
row_bytes l i s = part (i * row_size l) (i * row_size l + row_size l) s

-- m rows are fine, from row i on, counted from 0
unfoldable pub check_rows : Layout → List ℕ → ℕ → ℕ → Said Refusal (Unit {0})
check_rows l s i zero = says tt
check_rows l s i (suc m) = do
  check_row l (i + 1) (row_bytes l i s)
  check_rows l s (i + 1) m

-- a file of the binary kinds has exactly rows times row size bytes
abbrev pub check_length : Layout → List ℕ → Said Refusal (Unit {0})
check_length l s = must (eqb (length s) (l.rows * row_size l)) (refused 11 0 0)

-- a file of the binary kinds: its length, then row by row
unfoldable pub check_binary : Layout → List ℕ → Said Refusal (Unit {0})
check_binary l s = do
  check_length l s
  check_rows l s 0 l.rows

-- row i of a file, counted from 0
unfoldable pub binary_row : Layout → ℕ → List ℕ → Row
binary_row l i s = row_of l (row_bytes l i s)
