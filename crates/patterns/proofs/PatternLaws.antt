-- Laws of patterns, digits and bounds.
--     fits-length, fits-apart        what fits is as long as the pattern, and what is not does not fit
--     digits_lt                      the value of k digits or fewer is below 10 ^ k
--     between-bounds, between_is       what a number between bounds is, as an order
--     chosen                         which way a choice in a choice went
-- Assumes nothing.
use Rattle.std.specs.Prelude.{if◌then◌else◌}
use mathlib.Core.Path.{◌≡◌, refl, ap}
use mathlib.Core.Bool.{Bool, true, false}
use mathlib.Core.List.{List, [], ◌∷◌}
use Prim.Native.Nat.{ℕ, suc, ◌+◌, ◌^◌, ◌≤◌, ◌<◌}
use native.Mathlib.Nat.{le_trans, one-le-pow}
use native.Mathlib.Omega.{arith}
use borrow.Author.Tests.{leb-true, le-leb}
use lib.Dec.{leb, lit<}
use lib.ListN.{length}
use Rattle.ground.specs.Tables.{part}
use Rattle.ground.proofs.Cases.{on_test}
use Rattle.ground.proofs.Every.{and_split, and-join}
use Rattle.ground.proofs.Parts.{length-part-le}
use Rattle.std.proofs.Common.{None, Option, Some}
use Rattle.numerals.specs.Counts.{number_of, count_in}
use Rattle.numerals.specs.Inner.{Below}
use Rattle.numerals.proofs.CountLaws.{number-below}
use Rattle.patterns.specs.Patterns.{fits_character, fits_pattern, digits_at, between}

pub fits-length : (p l : List ℕ) → fits_pattern p l ≡ true → length l ≡ length p
unfolding fits_pattern
fits-length [] [] e = refl
fits-length [] (b ∷ l) e = cc
fits-length (q ∷ p) [] e = cc
fits-length (q ∷ p) (b ∷ l) e = ap suc (fits-length p l (and_split (fits_character q b) (fits_pattern p l) e).1)

pub fits-apart : (p l : List ℕ) → (length p ≡ length l → ⊥) → fits_pattern p l ≡ false
fits-apart p l h = on_test (fits_pattern p l) (λ e. absurd (h (omega (arith, fits-length p l e)))) (λ e. e)

value-below : (n : ℕ) (k : Option ℕ) → 0 < n → Below n k → count_in k < n
value-below n (Some v) h b = b
value-below n None h b = h

pub digits_lt : (f t k : ℕ) (l : List ℕ) → t ≤ f + k → digits_at f t l < 10 ^ k
unfolding digits_at
digits_lt f t k l h =
    value-below (10 ^ k) (number_of (part f t l)) (one-le-pow k 10 (lit< tt))
    (number-below k (part f t l) (le_trans (length-part-le f t l) (omega arith)))

pub between-bounds : (least most n : ℕ) → between least most n ≡ true → (least ≤ n) × (n ≤ most)
unfolding between
between-bounds least most n e =
    let s = and_split (leb least n) (leb n most) e in
    (leb-true least n s.0, leb-true n most s.1)

pub between_is : (least most n : ℕ) → least ≤ n → n ≤ most → between least most n ≡ true
unfolding between
between_is least most n h k = and-join (leb least n) (leb n most) (le-leb least n h) (le-leb n most k)

pub chosen : {A : Type 0} (t u : Bool) (a r f v : A) → (r ≡ v → ⊥) → (f ≡ v → ⊥) → (if t then if u then a else r else f) ≡ v → (u ≡ true) × (a ≡ v)
chosen true true a r f v h k e = (refl, e)
chosen true false a r f v h k e = absurd (h e)
chosen false u a r f v h k e = absurd (k e)
