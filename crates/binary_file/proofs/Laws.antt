-- Laws of files of the two binary kinds.
--     row-end, row-length         row i lies within the file, and has the size of a row
--     rows-turn                   a turn of the check over the rows
--     length-told, whole          a file that has its length, and an accepted one
--     length-only, length-tabled  its length is refused only with 11, which is in the table of numbers
--     rows-only                   rows only as the check of a row refuses
--     file-only, file-tabled      a file only so or so, and so with reasons in the table of numbers
-- Assumes nothing.
use mathlib.Core.Path.{◌≡◌, ◌∙◌}
use mathlib.Core.List.{List}
use Prim.Native.Nat.{ℕ, zero, suc, ◌+◌, ◌-◌, ◌*◌, ◌<◌, ◌≤◌}
use native.Mathlib.Omega.{arith}
use borrow.Author.Tests.{eqb-true}
use lib.Dec.{eqb}
use lib.ListN.{length}
use Rattle.ground.specs.Said.{says, ◌>>◌}
use Rattle.ground.proofs.Parts.{length_part}
use Rattle.ground.proofs.RefusalLaws.{RefusesOnly, only-must, only_then}
use Rattle.ground.proofs.SaidLaws.{must-holds, then-told}
use Rattle.ground.proofs.Tables.{block-end}
use Rattle.model.specs.declared.Layout.{Layout}
use Rattle.model.specs.declared.Refusal.{Refusal}
use Rattle.model.specs.Refusals.{refused}
use Rattle.model.proofs.NumberLaws.{RefusalTabled, RefusesTabled}
use Rattle.binary_row.specs.Rows.{row_size, check_row}
use Rattle.binary_row.proofs.RowLaws.{check-only}
use Rattle.binary_file.specs.Files.{row_bytes, check_rows, check_length, check_binary}

module _ (l : Layout) (s : List ℕ) where
  pub row-end : (i : ℕ) → length s ≡ l.rows * row_size l → i < l.rows → i * row_size l + row_size l ≤ length s
  row-end i e h = rw e (block-end i l.rows (row_size l) h)

  pub row-length : (i : ℕ) → length s ≡ l.rows * row_size l → i < l.rows → length (row_bytes l i s) ≡ row_size l
  row-length i e h = length_part (i * row_size l) (i * row_size l + row_size l) s (row-end i e h) ∙ omega arith

  pub rows-turn : (i n : ℕ) → i < n
      → check_rows l s i (n - i) ≡ (check_row l (i + 1) (row_bytes l i s) >> check_rows l s (i + 1) (n - (i + 1)))
  unfolding check_rows
  rows-turn i n h = let e : n - i ≡ suc (n - (i + 1)) = omega arith in rw e

  pub length-told : check_length l s ≡ says tt → length s ≡ l.rows * row_size l
  length-told e = eqb-true (length s) (l.rows * row_size l) (must-holds (eqb (length s) (l.rows * row_size l)) (refused 11 0 0) e)

  pub whole : check_binary l s ≡ says tt → (length s ≡ l.rows * row_size l) × (check_rows l s 0 l.rows ≡ says tt)
  unfolding check_binary
  whole e = let t = then-told (check_length l s) (check_rows l s 0 l.rows) tt e in (length-told t.0, t.1)

module _ (P : Refusal → Type 0) where
  pub length-only : P (refused 11 0 0) → (l : Layout) (s : List ℕ) → RefusesOnly P (check_length l s)
  length-only long l s = only-must P (eqb (length s) (l.rows * row_size l)) (refused 11 0 0) (λ e. long)

  module _ (number : (n : ℕ) → 1 ≤ n → P (refused 12 n 1)) (padding : (n : ℕ) → 1 ≤ n → P (refused 13 n 0)) where
    pub rows-only : (l : Layout) (s : List ℕ) (i m : ℕ) → RefusesOnly P (check_rows l s i m)
    unfolding check_rows
    rows-only l s i zero = tt
    rows-only l s i (suc m) =
        only_then P (check_row l (i + 1) (row_bytes l i s)) (check_rows l s (i + 1) m)
        (check-only P (i + 1) (number (i + 1) (omega arith)) (padding (i + 1) (omega arith)) l (row_bytes l i s))
        (λ e. rows-only l s (i + 1) m)

    pub file-only : P (refused 11 0 0) → (l : Layout) (s : List ℕ) → RefusesOnly P (check_binary l s)
    unfolding check_binary
    file-only long l s = only_then P (check_length l s) (check_rows l s 0 l.rows) (length-only long l s) (λ e. rows-only l s 0 l.rows)

pub length-tabled : (l : Layout) (s : List ℕ) → RefusesTabled (check_length l s)
length-tabled l s = length-only RefusalTabled tt l s

pub file-tabled : (l : Layout) (s : List ℕ) → RefusesTabled (check_binary l s)
file-tabled l s = file-only RefusalTabled (λ n h. tt) (λ n h. tt) tt l s
