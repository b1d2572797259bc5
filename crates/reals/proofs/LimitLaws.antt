-- Laws of limits.
--     digits-small        the digits of a mantissa of at most 13 characters are below 10 ^ 13
--     places-within       the digits after the point lie within the characters
--     exact-sound         the number of a real of at most 13 characters is sound
--     limit-sound         the number of every limit that is read is sound, and so can be compared
-- Assumes nothing.
use mathlib.Core.Path.{◌≡◌, refl}
use mathlib.Core.Bool.{Bool}
use mathlib.Core.List.{List, [], ◌∷◌}
use Prim.Native.Nat.{ℕ, ◌+◌, ◌-◌, ◌*◌, ◌^◌, ◌≤◌, ◌<◌}
use native.Mathlib.Omega.{arith}
use lib.ListN.{length, take, drop, length-take, length-drop}
use Rattle.ground.proofs.Cases.{on_test, clash}
use Rattle.std.proofs.Common.{Err, None, Ok, Option, Some}
use Rattle.numerals.specs.declared.FieldError.TheVariants.{Form, Range}
use Rattle.numerals.specs.Counts.{length_in, is_digit, leading_spaces}
use Rattle.numerals.specs.Wholes.{sign_length, has_minus}
use Rattle.numerals.proofs.Tens.{more, cap}
use Rattle.numerals.proofs.CountLaws.{digit-bounds, length-bounds}
use Rattle.reals.specs.declared.Exact.{Exact}
use Rattle.reals.specs.Forms.{leading_digits, mantissa_length, real_form}
use Rattle.reals.specs.Exact.{digits_of, decimal_places, exact_of, within_bound, in_bound, limit_from, limit_of, signed_limit, read_limit}
use Rattle.reals.specs.Inner.{Sound}
use Rattle.reals.proofs.FormLaws.{fraction-within, form-bounds}

digits-from : (k : ℕ) (l : List ℕ) (i v : ℕ) → i + length l ≤ k → v < 10 ^ i → digits_of v l < 10 ^ k
unfolding digits_of
digits-from k [] i v h b = cap k i v (omega arith) b
digits-from k (c ∷ l) i v h b =
    on_test (is_digit c)
    (λ e. let d = digit-bounds c e in rw (digits_of, e) (digits-from k l (i + 1) (10 * v + (c - 48)) (omega arith) (more i v (c - 48) b (omega arith))))
    (λ e. rw (digits_of, e) (digits-from k l i v (omega arith) b))

pub digits-small : (k : ℕ) (l : List ℕ) → length l ≤ k → digits_of 0 l < 10 ^ k
digits-small k l h = digits-from k l 0 0 (omega arith) (omega arith)

pub places-within : (l : List ℕ) → decimal_places l ≤ length l
unfolding decimal_places
places-within l = omega (arith, rw length-drop at (fraction-within (drop (leading_digits l) l)))

pub exact-sound : (minus : Bool) (e : ℕ) (l : List ℕ) → length l ≤ 13 → e ≤ 2099 → Sound (exact_of minus e l)
unfolding exact_of
exact-sound minus e l h k = record {
  few = digits-small 13 (take (mantissa_length l) l) (rw length-take (omega arith));
  near = omega arith;
}

from-sound : (minus : Bool) (l : List ℕ) (k : Option ℕ) (x : Exact) → length l ≤ 13 → real_form l ≡ k → limit_from minus l k ≡ Ok x → Sound x
unfolding in_bound
from-sound minus l (Some e) x h f q =
    on_test (within_bound (exact_of minus e l))
    (λ t. let r : Ok (exact_of minus e l) ≡ Ok x = rw t at q in let s : exact_of minus e l ≡ x = cc in rw (← s) (exact-sound minus e l h (form-bounds l e f).1))
    (λ t. let r : Err Range ≡ Ok x = rw t at q in clash (cc))
from-sound minus l None x h f q = clash (cc)

pub limit-sound : (l : List ℕ) (x : Exact) → read_limit l ≡ Ok x → Sound x
unfolding read_limit signed_limit limit_of
limit-sound l x q =
    on_test (length_in 1 13 l)
    (λ t.
    let s = drop (leading_spaces l) l in
    let u = drop (sign_length s) s in
    from-sound (has_minus s) u (real_form u) x (simp length-drop (omega (arith, (length-bounds 1 13 l t).1))) refl (rw t at q))
    (λ t. let r : Err Form ≡ Ok x = rw t at q in clash (cc))
