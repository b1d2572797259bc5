-- Laws of the line of a text row.
--     fields-turn         a turn of the check over the fields
--     fill-turn           a turn of a reader that fills a table with what the fields say
--     field-only, fields-only     a field, and some in a row, are refused only with 14
--     number-only                 the number only so, or with 12 at field 1
--     line-only, line-tabled      a line only as its number, so with reasons in the table of numbers
-- Assumes nothing.
use mathlib.Core.Path.{◌≡◌, ◌∙◌}
use mathlib.Core.List.{List, ◌++◌}
use Prim.Native.Nat.{ℕ, zero, suc, ◌+◌, ◌-◌, ◌<◌, ◌≤◌, min}
use native.Mathlib.Omega.{arith}
use lib.Dec.{eqb}
use lib.ListN.{length, take, drop, set, length-set}
use Rattle.ground.specs.Said.{◌>>◌, must}
use Rattle.ground.proofs.RefusalLaws.{RefusesOnly, only-must, only_then, only-bind}
use Rattle.ground.specs.Tables.{tab}
use Rattle.ground.proofs.Tables.{tab-set}
use Rattle.std.proofs.Common.{None, Option, Some}
use Rattle.text.specs.Fields.{field_count, field_length, first_field, after_fields, field_at}
use Rattle.text.proofs.FieldLaws.{field-after, after-step, walk-on, walk-shorter}
use Rattle.model.specs.declared.Layout.{Layout}
use Rattle.model.specs.declared.Refusal.{Refusal}
use Rattle.model.specs.Refusals.{refused}
use Rattle.model.proofs.NumberLaws.{RefusalTabled, RefusesTabled}
use Rattle.numerals.specs.Counts.{read_count}
use Rattle.ascii_row.specs.Rows.{fields_of, field, field_fine, check_fields, check_number, check_line}

pub fields-turn : (l : Layout) (n : ℕ) (t : List ℕ) (k end : ℕ) → k < end
    → check_fields l n t k (end - k)
    ≡ (must (field_fine l k (first_field t)) (refused 14 n k) >> check_fields l n (drop (field_length t + 1) t) (k + 1) (end - (k + 1)))
unfolding check_fields
fields-turn l n t k end h = let e : end - k ≡ suc (end - (k + 1)) = omega arith in rw e

-- t is what follows i fields of l, of which m bytes are the first field and k with its comma; d is as d₀ was past the first i
module _ {A : Type 0} (g : List ℕ → A) (l t : List ℕ) (d₀ d : List A) (i m k : ℕ) where
  pub fill-turn : (x : A) → length t ≤ length l → i < length d → length d ≡ length d₀ → t ≡ after_fields i l → d ≡ tab (λ j. g (field_at (j + 1) l)) i ++ drop i d₀
      → m ≡ field_length t → k ≡ min (m + 1) (length t) → x ≡ g (take m t)
      → (length (take (length t - k) (drop k t)) ≤ length l) × (i + 1 ≤ length d₀) × (length (set d i x) ≡ length d₀)
      × (take (length t - k) (drop k t) ≡ after_fields (i + 1) l) × (set d i x ≡ tab (λ j. g (field_at (j + 1) l)) (i + 1) ++ drop (i + 1) d₀)
  fill-turn x short h e after filled first taken y =
      let z : x ≡ g (field_at (i + 1) l) = y ∙ rw (first, after, field-after) in (
        omega (arith, walk-shorter t m k first taken),
        omega arith,
        length-set d i x ∙ e,
        walk-on t m k first taken ∙ rw (after, after-step),
        rw (z, filled) (tab-set (λ j. g (field_at (j + 1) l)) d₀ i (omega arith)),
      )

-- row n
module _ (P : Refusal → Type 0) (n : ℕ) (bad : (k : ℕ) → P (refused 14 n k)) where
  pub field-only : (k : ℕ) (v : Option ℕ) → RefusesOnly P (field n k v)
  field-only k (Some v) = tt
  field-only k None = bad k

  pub fields-only : (l : Layout) (t : List ℕ) (k m : ℕ) → RefusesOnly P (check_fields l n t k m)
  unfolding check_fields
  fields-only l t k zero = tt
  fields-only l t k (suc m) =
      only_then P (must (field_fine l k (first_field t)) (refused 14 n k)) (check_fields l n (drop (field_length t + 1) t) (k + 1) m)
      (only-must P (field_fine l k (first_field t)) (refused 14 n k) (λ e. bad k))
      (λ e. fields-only l (drop (field_length t + 1) t) (k + 1) m)

  module _ (number : P (refused 12 n 1)) where
    pub number-only : (t : List ℕ) → RefusesOnly P (check_number n t)
    unfolding check_number
    number-only t =
        only-bind P (field n 1 (read_count 1 10 (field_at 1 t))) (λ v. must (eqb v n) (refused 12 n 1))
        (field-only 1 (read_count 1 10 (field_at 1 t)))
        (λ v e. only-must P (eqb v n) (refused 12 n 1) (λ f. number))

    pub line-only : (l : Layout) (t : List ℕ) → RefusesOnly P (check_line l n t)
    unfolding check_line
    line-only l t =
        let others = check_fields l n (after_fields 1 t) 2 (1 + l.analogs + l.statuses) in
        only_then P (must (eqb (field_count t) (fields_of l)) (refused 14 n 0)) (check_number n t >> others)
        (only-must P (eqb (field_count t) (fields_of l)) (refused 14 n 0) (λ e. bad 0))
        (λ e. only_then P (check_number n t) others (number-only t) (λ f. fields-only l (after_fields 1 t) 2 (1 + l.analogs + l.statuses)))

pub line-tabled : (l : Layout) (n : ℕ) (t : List ℕ) → RefusesTabled (check_line l n t)
line-tabled l n t = line-only RefusalTabled n (λ k. tt) tt l t
