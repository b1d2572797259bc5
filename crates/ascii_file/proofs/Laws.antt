-- Laws of files of text.
--     takes_told, not-told            what an answer of a row's check says of the rule that gave it
--     ending-none, ending-one, ending-three, ending-not     what may follow the last row, by its length
--     row-takes-told                  a row that is fine: its line, and that it lies within the text
--     row-takes                       a row that one walk read through is fine
--     rows-turn                       a turn of the check over the rows
--     line-within, line-taken-within  the line that a text begins with lies within it
--     rows_none, rows-after           what follows the first i rows, from one to the next
--     found-only                      a line that isn't found is refused only with 11 or 14
--     row-only, row-tabled            a row only so, or as the check of its line refuses, and so with reasons in the table of numbers
--     end-only, end-tabled            what follows the last row only with 11, which is one of them
--     lines-only                      rows and their end only as a row
--     file-only, file-tabled          a file only so, and so with reasons in the table of numbers
-- Assumes nothing.
use mathlib.Core.Path.{◌≡◌, refl, sym, ap, ◌∙◌}
use mathlib.Core.Bool.{true, false, ◌&&◌}
use mathlib.Core.List.{List, [], ◌∷◌}
use Prim.Native.Nat.{ℕ, zero, suc, ◌+◌, ◌-◌, ◌<◌, ◌≤◌}
use native.Mathlib.Nat.{suc-add}
use native.Mathlib.Omega.{arith}
use lib.Dec.{lit≤, eqb}
use lib.ListN.{length, get_or, take, drop}
use Rattle.ground.specs.Said.{Said, says, refuses, ◌>>=◌, ◌>>◌, answer_of}
use Rattle.ground.proofs.RefusalLaws.{RefusesOnly, only-must, only_then, only-bind}
use Rattle.ground.proofs.SaidLaws.{then-told}
use Rattle.std.proofs.Common.{Err, Ok, Result}
use Rattle.text.specs.declared.LineError.{LineError}
use Rattle.text.specs.declared.Line.{Line}
use Rattle.text.specs.declared.LineError.TheVariants.{Bad, Ends}
use Rattle.text.proofs.LineLaws.{Found, scan-found, line-found}
use Rattle.model.specs.declared.Layout.{Layout}
use Rattle.model.specs.declared.Refusal.{Refusal}
use Rattle.model.specs.Refusals.{refused}
use Rattle.model.proofs.NumberLaws.{RefusalTabled, RefusesTabled}
use Rattle.ascii_row.specs.Rows.{check_line}
use Rattle.ascii_row.proofs.RowLaws.{line-only}
use Rattle.ascii_walk.specs.Inner.{RowThere}
use Rattle.ascii_file.specs.Files.{scan_row, found, take_row, is_ending, check_end, check_lines, check_text, line_length, line_taken, after_rows}

pub takes_told : (x : Said Refusal ℕ) (k : ℕ) → answer_of x ≡ Ok k → x ≡ says k
takes_told (says j) k e = cc
takes_told (refuses r) k e = cc

pub not-told : (x : Said Refusal ℕ) (r : Refusal) → answer_of x ≡ Err r → x ≡ refuses r
not-told (says j) r e = cc
not-told (refuses q) r e = cc

pub ending-none : (s : List ℕ) → length s ≡ 0 → is_ending s ≡ true
unfolding is_ending
ending-none [] h = refl
ending-none (b ∷ s) h = absurd (omega arith)

pub ending-one : (s : List ℕ) → length s ≡ 1 → is_ending s ≡ eqb (get_or s 0 0) 26
unfolding is_ending
ending-one [] h = absurd (omega arith)
ending-one (b ∷ []) h = refl
ending-one (b ∷ c ∷ s) h = absurd (omega arith)

pub ending-three : (s : List ℕ) → length s ≡ 3 → is_ending s ≡ (eqb (get_or s 0 0) 26 && eqb (get_or s 1 0) 13 && eqb (get_or s 2 0) 10)
unfolding is_ending
ending-three [] h = absurd (omega arith)
ending-three (b ∷ []) h = absurd (omega arith)
ending-three (b ∷ c ∷ []) h = absurd (omega arith)
ending-three (b ∷ c ∷ d ∷ []) h = refl
ending-three (b ∷ c ∷ d ∷ e ∷ s) h = absurd (omega arith)

pub ending-not : (s : List ℕ) → (length s ≡ 0 → ⊥) → (length s ≡ 1 → ⊥) → (length s ≡ 3 → ⊥) → is_ending s ≡ false
unfolding is_ending
ending-not [] f g h = absurd (f refl)
ending-not (b ∷ []) f g h = absurd (g refl)
ending-not (b ∷ c ∷ []) f g h = refl
ending-not (b ∷ c ∷ d ∷ []) f g h = absurd (h refl)
ending-not (b ∷ c ∷ d ∷ e ∷ s) f g h = refl

-- a row that is fine is a line of len bytes, fine, and takes len + 2
pub record RowTakes (l : Layout) (n : ℕ) (s : List ℕ) (k : ℕ) : Type 0 where
  pub len : ℕ
  pub scanned : scan_row s ≡ Ok (record { len = len; taken = (len + 2) })
  pub line : check_line l n (take len s) ≡ says tt
  pub takes : k ≡ len + 2
  pub within : k ≤ length s

fine-from : (l : Layout) (n : ℕ) (s : List ℕ) (k : ℕ) (r : Result Line LineError) → Found 1880 s r → scan_row s ≡ r
    → (found n r >>= (λ len. check_line l n (take len s) >> says (len + 2))) ≡ says k → RowTakes l n s k
fine-from l n s k (Ok one) f q e =
    let t = then-told (check_line l n (take one.len s)) (says (one.len + 2)) k e in
    let w : k ≡ one.len + 2 = cc in
    record { len = one.len; scanned = q ∙ rw f.0; line = t.0; takes = w; within = omega (arith, f.1.within, f.0) }
fine-from l n s k (Err Ends) f q e = record { len = 0; scanned = cc; line = cc; takes = cc; within = let z : k ≡ 0 = cc in omega arith }
fine-from l n s k (Err Bad) f q e = record { len = 0; scanned = cc; line = cc; takes = cc; within = let z : k ≡ 0 = cc in omega arith }

pub row-takes-told : (l : Layout) (n : ℕ) (s : List ℕ) (k : ℕ) → take_row l n s ≡ says k → RowTakes l n s k
unfolding take_row
row-takes-told l n s k e = fine-from l n s k (scan_row s) (scan-found 1880 s) refl e

-- a row that one walk read through
pub row-takes : (l : Layout) (n : ℕ) (s : List ℕ) (k : ℕ) → RowThere l n s k → take_row l n s ≡ says k
unfolding take_row
row-takes l n s k r = rw (r.scanned, r.fine) (ap says (sym (line-found 1880 (k - 2) k s r.scanned).0))

pub rows-turn : (l : Layout) (s : List ℕ) (n end : ℕ) → n < end
    → check_lines l s n (end - n) ≡ (take_row l n s >>= (λ taken. check_lines l (drop taken s) (n + 1) (end - (n + 1))))
unfolding check_lines
rows-turn l s n end h = let e : end - n ≡ suc (end - (n + 1)) = omega arith in rw e

within-from : (s : List ℕ) (r : Result Line LineError) → Found 1880 s r → (line_length r ≤ length s) × (line_taken r ≤ length s)
within-from s (Ok one) f = (omega (arith, f.1.within, f.0), f.1.within)
within-from s (Err Ends) f = (omega arith, omega arith)
within-from s (Err Bad) f = (omega arith, omega arith)

pub line-within : (s : List ℕ) → line_length (scan_row s) ≤ length s
line-within s = (within-from s (scan_row s) (scan-found 1880 s)).0

pub line-taken-within : (s : List ℕ) → line_taken (scan_row s) ≤ length s
line-taken-within s = (within-from s (scan_row s) (scan-found 1880 s)).1

pub rows_none : (s : List ℕ) → after_rows 0 s ≡ s
unfolding after_rows
rows_none s = refl

pub rows-after : (i : ℕ) (s : List ℕ) → after_rows (i + 1) s ≡ drop (line_taken (scan_row (after_rows i s))) (after_rows i s)
unfolding after_rows
rows-after zero s = refl
rows-after (suc i) s = rw (suc-add i 1) (rows-after i (drop (line_taken (scan_row s)) s))

module _ (P : Refusal → Type 0) where
  -- row n
  module _ (n : ℕ) (ends : P (refused 11 n 0)) where
    pub end-only : (s : List ℕ) → RefusesOnly P (check_end n s)
    end-only s = only-must P (is_ending s) (refused 11 n 0) (λ e. ends)

    module _ (bad : (k : ℕ) → P (refused 14 n k)) where
      pub found-only : (x : Result Line LineError) → RefusesOnly P (found n x)
      found-only (Ok one) = tt
      found-only (Err Ends) = ends
      found-only (Err Bad) = bad 0

      module _ (number : P (refused 12 n 1)) where
        pub row-only : (l : Layout) (s : List ℕ) → RefusesOnly P (take_row l n s)
        unfolding take_row
        row-only l s =
            only-bind P (found n (scan_row s)) (λ len. check_line l n (take len s) >> says (len + 2)) (found-only (scan_row s))
            (λ len e. only_then P (check_line l n (take len s)) (says (len + 2)) (line-only P n bad number l (take len s)) (λ f. tt))

  -- every row
  module _ (ends : (n : ℕ) → 1 ≤ n → P (refused 11 n 0)) (bad : (n k : ℕ) → 1 ≤ n → P (refused 14 n k)) (number : (n : ℕ) → 1 ≤ n → P (refused 12 n 1)) where
    pub lines-only : (l : Layout) (s : List ℕ) (n m : ℕ) → 1 ≤ n → RefusesOnly P (check_lines l s n m)
    unfolding check_lines
    lines-only l s n zero h = end-only n (ends n h) s
    lines-only l s n (suc m) h =
        only-bind P (take_row l n s) (λ taken. check_lines l (drop taken s) (n + 1) m) (row-only n (ends n h) (λ k. bad n k h) (number n h) l s)
        (λ taken e. lines-only l (drop taken s) (n + 1) m (omega arith))

    pub file-only : (l : Layout) (s : List ℕ) → RefusesOnly P (check_text l s)
    unfolding check_text
    file-only l s = lines-only l s 1 l.rows (lit≤ tt)

pub end-tabled : (n : ℕ) (s : List ℕ) → RefusesTabled (check_end n s)
end-tabled n s = end-only RefusalTabled n tt s

pub row-tabled : (l : Layout) (n : ℕ) (s : List ℕ) → RefusesTabled (take_row l n s)
row-tabled l n s = row-only RefusalTabled n tt (λ k. tt) tt l s

pub file-tabled : (l : Layout) (s : List ℕ) → RefusesTabled (check_text l s)
file-tabled l s = file-only RefusalTabled (λ n h. tt) (λ n k h. tt) (λ n h. tt) l s
