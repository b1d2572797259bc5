-- Laws of files of the two binary kinds: what is written is accepted and shown, and what is accepted is what was written.
--     binary-accepted       a file of written rows is accepted
--     binary-reads-back     it shows each row as it was written, with its places past A and D zero
--     length-binary         it is as long as its rows
--     row-there             a row of an accepted file, read and written again, has the same bytes
--     binary-back           and so has the whole file
-- Assumes nothing.
use mathlib.Core.Path.{◌≡◌, refl, ◌∙◌}
use mathlib.Core.Bool.{true}
use mathlib.Core.List.{List}
use Prim.Native.Nat.{ℕ, zero, suc, ◌+◌, ◌*◌, ◌^◌, ◌<◌}
use native.Mathlib.Nat.{add-zero}
use native.Mathlib.Omega.{arith}
use borrow.Author.Tests.{eq-eqb}
use lib.ListN.{length}
use Rattle.ground.specs.Said.{says}
use Rattle.ground.specs.Tables.{every}
use Rattle.ground.proofs.SaidLaws.{then-told}
use Rattle.ground.proofs.Tables.{length-cat, part-cat, cat-ext, cat-part}
use Rattle.words.specs.Words.{is_byte}
use Rattle.words.proofs.WordLaws.{bytes-part}
use Rattle.model.specs.declared.Layout.{Layout}
use Rattle.model.specs.declared.Row.{Row}
use Rattle.model.specs.Layouts.{Sized}
use Rattle.model.specs.Rows.{misfit, trimmed}
use Rattle.binary_row.specs.Rows.{row_size, check_row}
use Rattle.binary_bytes.specs.Rows.{binary_of}
use Rattle.binary_bytes.proofs.RowLaws.{length-row, row_back, row_fine, row-bytes-back}
use Rattle.binary_file.specs.Files.{row_bytes, check_rows, check_binary, binary_row}
use Rattle.binary_file.specs.Inner.{binary_file}
use Rattle.binary_file.proofs.Laws.{row-length, whole}

-- a file of written rows
module _ (l : Layout) (r : ℕ → Row) where
  file-row : (i : ℕ) → i < l.rows → row_bytes l i (binary_file l r) ≡ binary_of l (i + 1) (r i)
  file-row i h = part-cat (λ j. binary_of l (j + 1) (r j)) (row_size l) (λ j. length-row l (j + 1) (r j)) l.rows i h

  rows-fine : Sized l → (i m : ℕ) → i + m ≡ l.rows → check_rows l (binary_file l r) i m ≡ says tt
  unfolding check_rows
  rows-fine s i zero e = refl
  rows-fine s i (suc m) e = rw (file-row i (omega arith), row_fine l (i + 1) (r i) (omega arith)) (rows-fine s (i + 1) m (omega arith))

  pub length-binary : length (binary_file l r) ≡ l.rows * row_size l
  length-binary = length-cat (λ j. binary_of l (j + 1) (r j)) (row_size l) (λ j. length-row l (j + 1) (r j)) l.rows

  pub binary-accepted : Sized l → check_binary l (binary_file l r) ≡ says tt
  unfolding check_binary
  binary-accepted s = rw (eq-eqb (length (binary_file l r)) (l.rows * row_size l) length-binary) (rows-fine s 0 l.rows (omega arith))

  pub binary-reads-back : (i : ℕ) → i < l.rows → misfit l (r i).samples ≡ l.analogs → (r i).time < 2 ^ 32
      → binary_row l i (binary_file l r) ≡ trimmed l (r i)
  unfolding binary_row
  binary-reads-back i h f t = rw (file-row i h, row_back l (i + 1) (r i) f t)

-- an accepted file
module _ (l : Layout) (s : List ℕ) (fine : check_binary l s ≡ says tt) (bytes : every is_byte s ≡ true) where
  -- each of m rows from i on is fine
  rows_told : (i m : ℕ) → check_rows l s i m ≡ says tt → (j : ℕ) → j < m → check_row l (i + j + 1) (row_bytes l (i + j) s) ≡ says tt
  unfolding check_rows
  rows_told i zero e j h = absurd (omega arith)
  rows_told i (suc m) e zero h = rw add-zero (then-told (check_row l (i + 1) (row_bytes l i s)) (check_rows l s (i + 1) m) tt e).0
  rows_told i (suc m) e (suc j) h =
      let q : i + suc j ≡ i + 1 + j = omega arith in
      rw q (rows_told (i + 1) m (then-told (check_row l (i + 1) (row_bytes l i s)) (check_rows l s (i + 1) m) tt e).1 j (omega arith))

  pub row-there : (i : ℕ) → i < l.rows → binary_of l (i + 1) (binary_row l i s) ≡ row_bytes l i s
  unfolding binary_row
  row-there i h =
      let w = whole l s fine in
      let z : 0 + i ≡ i = omega arith in
      row-bytes-back l (i + 1) (row_bytes l i s) (row-length l s i w.0 h) (bytes-part (i * row_size l) (i * row_size l + row_size l) s bytes)
      (rw z at (rows_told 0 l.rows w.1 i h))

  pub binary-back : binary_file l (λ i. binary_row l i s) ≡ s
  binary-back =
      cat-ext (λ i. binary_of l (i + 1) (binary_row l i s)) (λ i. row_bytes l i s) l.rows row-there
      ∙ cat-part s (row_size l) l.rows (whole l s fine).0
