-- Laws of plain files: what is written is accepted and reads back, and a text's rows can be written.
--     rows-front                         rows that are written from row n on, the first and the others
--     text-accepted, text-reads-back     a plain file is accepted, and shows each row as it was written, with its places past A and D zero
--     row_fits, text-trimmed             a row of a text, accepted or not, can be written, and has its places past A and D zero
-- Assumes nothing.
use mathlib.Core.Path.{◌≡◌, refl, sym, ap}
use mathlib.Core.List.{List, ◌++◌, append_assoc}
use Prim.Native.Nat.{ℕ, zero, suc, ◌+◌, ◌^◌, ◌<◌, ◌≤◌}
use native.Mathlib.Nat.{zero-add}
use native.Mathlib.Numerals.{add-one}
use native.Mathlib.Omega.{arith}
use lib.Seq.{drop_at}
use Rattle.ground.specs.Said.{says}
use Rattle.ground.specs.Tables.{cat}
use Rattle.ground.proofs.Tables.{cat-front, cat-ext}
use Rattle.text.specs.Fields.{field_at}
use Rattle.model.specs.declared.Layout.{Layout}
use Rattle.model.specs.declared.Row.{Row}
use Rattle.model.specs.Layouts.{Sized}
use Rattle.model.specs.Rows.{trimmed}
use Rattle.ascii_row.specs.Rows.{row_of}
use Rattle.ascii_row.proofs.FieldLaws.{time-below, sample-fits}
use Rattle.ascii_row.proofs.LineLaws.{sample-there, row-trimmed}
use Rattle.ascii_plain.specs.Rows.{text_of}
use Rattle.ascii_plain.specs.Inner.{text_length}
use Rattle.ascii_plain.proofs.LengthLaws.{length-text}
use Rattle.ascii_file.specs.Files.{is_ending, check_lines, check_text, first_line, after_rows, text_row, mark, text_file}
use Rattle.ascii_file.proofs.RoundLaws.{Fits, line-back, row-checked, row-line, row-rest}

pub rows-front : (l : Layout) (r : ℕ → Row) (n m : ℕ) (end : List ℕ)
    → cat (λ i. text_of l (i + n) (r i)) (suc m) ++ end ≡ text_of l n (r 0) ++ (cat (λ i. text_of l (i + (n + 1)) (r (i + 1))) m ++ end)
rows-front l r n m end =
    let g : ℕ → List ℕ = λ i. text_of l (i + n) (r i) in
    let more = cat-ext (λ i. g (i + 1)) (λ i. text_of l (i + (n + 1)) (r (i + 1))) m (λ i q. ap (λ (k : ℕ). text_of l k (r (i + 1))) (omega arith)) in
    rw (cat-front g m, append_assoc (g 0) (cat (λ i. g (i + 1)) m) end, zero-add n, more)

-- m rows from row n on, and then the end mark
module _ (l : Layout) (s : Sized l) where
  rows-accepted : (r : ℕ → Row) (n m : ℕ) → n + m ≤ 2 ^ 32 → ((i : ℕ) → i < m → Fits l (r i))
      → check_lines l (cat (λ i. text_of l (i + n) (r i)) m ++ mark) n m ≡ says tt
  unfolding check_lines is_ending
  rows-accepted r n zero h f = refl
  rows-accepted r n (suc m) h f =
      let more = cat (λ i. text_of l (i + (n + 1)) (r (i + 1))) m ++ mark in
      rw (
        rows-front l r n m mark,
        row-checked l n (r 0) (f 0 (omega arith)) s (omega arith) more,
        drop_at (text_of l n (r 0)) more (text_length l n (r 0)) (sym (length-text l n (r 0))),
      )
      (rows-accepted (λ i. r (i + 1)) (n + 1) m (omega arith) (λ i q. f (i + 1) (omega arith)))

  rows_back : (r : ℕ → Row) (n m i : ℕ) → n + m ≤ 2 ^ 32 → ((i : ℕ) → i < m → Fits l (r i)) → i < m
      → text_row l i (cat (λ i. text_of l (i + n) (r i)) m ++ mark) ≡ trimmed l (r i)
  unfolding text_row after_rows
  rows_back r n zero i h f k = absurd (omega arith)
  rows_back r n (suc m) zero h f k =
      let more = cat (λ i. text_of l (i + (n + 1)) (r (i + 1))) m ++ mark in
      rw (rows-front l r n m mark, row-line l n (r 0) (f 0 k) s (omega arith) more, line-back l n (r 0) (f 0 k))
  rows_back r n (suc m) (suc i) h f k =
      let more = cat (λ i. text_of l (i + (n + 1)) (r (i + 1))) m ++ mark in
      rw (rows-front l r n m mark, row-rest l n (r 0) (f 0 (omega arith)) s (omega arith) more, ← add-one i)
      (rows_back (λ i. r (i + 1)) (n + 1) m i (omega arith) (λ i q. f (i + 1) (omega arith)) (omega arith))

  module _ (r : ℕ → Row) (f : (i : ℕ) → i < l.rows → Fits l (r i)) where
    pub text-accepted : check_text l (text_file l r) ≡ says tt
    unfolding check_text
    text-accepted = rows-accepted r 1 l.rows (omega (arith, s.rows)) f

    pub text-reads-back : (i : ℕ) → i < l.rows → text_row l i (text_file l r) ≡ trimmed l (r i)
    text-reads-back i h = rows_back r 1 l.rows i (omega (arith, s.rows)) f h

pub row_fits : (l : Layout) (i : ℕ) (s : List ℕ) → Fits l (text_row l i s)
unfolding text_row row_of
row_fits l i s =
    let line = first_line (after_rows i s) in
    record {
      time = time-below (field_at 2 line);
      samples = λ j h. rw (sample-there l line j h) (sample-fits l (field_at (3 + j) line));
    }

pub text-trimmed : (l : Layout) (i : ℕ) (s : List ℕ) → trimmed l (text_row l i s) ≡ text_row l i s
unfolding text_row
text-trimmed l i s = row-trimmed l (first_line (after_rows i s))
