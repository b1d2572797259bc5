-- Laws of the form of a real.
--     digits-within, fraction-within, mantissa-within     what is counted lies within the characters
--     short-below                                         1 to 3 digits are below 1000
--     form-bounds                                         the exponent of a real, 1100 up, is from 101 to 2099
-- Assumes nothing.
use mathlib.Core.Path.{◌≡◌}
use mathlib.Core.Bool.{Bool, true, false, ◌&&◌}
use mathlib.Core.List.{List, [], ◌∷◌}
use Prim.Native.Nat.{ℕ, ◌+◌, ◌-◌, ◌^◌, ◌≤◌}
use native.Mathlib.Omega.{arith}
use lib.Dec.{ltb, eqb}
use lib.ListN.{length, drop, length-drop}
use Rattle.ground.proofs.Cases.{on_test, clash}
use Rattle.std.proofs.Common.{None, Option, Some}
use Rattle.numerals.specs.Counts.{length_in, is_digit}
use Rattle.numerals.specs.Inner.{Below}
use Rattle.numerals.specs.Wholes.{sign_length, has_minus}
use Rattle.numerals.proofs.CountLaws.{length-bounds, number-below}
use Rattle.reals.specs.Forms.{leading_digits, fraction_length, mantissa_length, is_e, short_number, raised_by, signed_exponent, exponent_of, real_form}

pub digits-within : (l : List ℕ) → leading_digits l ≤ length l
unfolding leading_digits
digits-within [] = omega arith
digits-within (b ∷ l) = on_test (is_digit b) (λ e. rw (leading_digits, e) (omega (arith, digits-within l))) (λ e. rw (leading_digits, e) (omega arith))

pub fraction-within : (l : List ℕ) → fraction_length l ≤ length l
unfolding fraction_length
fraction-within [] = omega arith
fraction-within (b ∷ l) =
    on_test (eqb b 46 && ltb 0 (leading_digits l)) (λ e. rw e (omega (arith, digits-within l))) (λ e. rw e (omega arith))

pub mantissa-within : (l : List ℕ) → mantissa_length l ≤ length l
unfolding mantissa_length
mantissa-within l =
    on_test (eqb (leading_digits l) 0)
    (λ e. rw e (omega arith))
    (λ e. rw e (omega (arith, digits-within l, rw length-drop at (fraction-within (drop (leading_digits l) l)))))

pub short-below : (l : List ℕ) → Below (10 ^ 3) (short_number l)
unfolding short_number
short-below l =
    on_test (length_in 1 3 l) (λ e. rw e (number-below 3 l (length-bounds 1 3 l e).1)) (λ e. rw e tt)

raised-bounds : (minus : Bool) (k : Option ℕ) (e : ℕ) → Below (10 ^ 3) k → raised_by minus k ≡ Some e → (101 ≤ e) × (e ≤ 2099)
unfolding raised_by
raised-bounds true (Some v) e h q = let z : 1100 - v ≡ e = cc in (omega arith, omega arith)
raised-bounds false (Some v) e h q = let z : 1100 + v ≡ e = cc in (omega arith, omega arith)
raised-bounds minus None e h q = clash (cc)

exponent-bounds : (l : List ℕ) (e : ℕ) → exponent_of l ≡ Some e → (101 ≤ e) × (e ≤ 2099)
unfolding exponent_of signed_exponent
exponent-bounds [] e q = let z : 1100 ≡ e = cc in (omega arith, omega arith)
exponent-bounds (b ∷ l) e q =
    on_test (is_e b)
    (λ t. raised-bounds (has_minus l) (short_number (drop (sign_length l) l)) e (short-below (drop (sign_length l) l)) (rw t at q))
    (λ t. let x : None ≡ Some e = rw t at q in clash (cc))

pub form-bounds : (l : List ℕ) (e : ℕ) → real_form l ≡ Some e → (101 ≤ e) × (e ≤ 2099)
unfolding real_form
form-bounds l e q =
    on_test (eqb (mantissa_length l) 0)
    (λ t. let x : None ≡ Some e = rw t at q in clash (cc))
    (λ t. exponent-bounds (drop (mantissa_length l) l) e (rw t at q))
