-- Laws of sizes m * 10 ^ x, and of the order of exact decimals.
--     grow, shift                      a power of ten more
--     below-digits, least-digits       a number of so many digits lies between two powers of ten
--     zero-le, not-le-zero             zero against a size
--     place, apart                     the place of the first digit, and the order where the places differ
--     level, within-places             the order where they are equal, by the digits alone; k digits are below 10 ^ k
--     minus_minus, minus_plus, plus-minus, plus-plus     whether max is below min, by the minus of each
-- Assumes nothing.
use mathlib.Core.Path.{◌≡◌, refl, ap, sym, ◌∙◌}
use mathlib.Core.Logic.{⊎_elim}
use mathlib.Core.Bool.{true, false, not}
use Prim.Native.Nat.{ℕ, zero, suc, ◌+◌, ◌-◌, ◌*◌, ◌/◌, ◌^◌, ◌<◌, ◌≤◌}
use native.Mathlib.Nat.{pow-suc, pow-succ', mul_assoc, zero-mul, zero-add, le-mul_of_pos_right, one-le-pow, pow-le-pow_right, mul-le-mul_right, mul-lt-mul_of_pos_right}
use native.Mathlib.Numerals.{add-one}
use native.Mathlib.Omega.{arith}
use lib.Dec.{leb, ltb, lit<, leb-suc-suc}
use lib.IntN.{pos, neg_ℤ}
use lib.ListN.{length, length-append}
use lib.Pow.{pow-add}
use lib.Signed.{lt_z}
use borrow.Author.Tests.{ltb-true, ltb-false, leb-true, leb-false, le-leb, lt-leb, lt-ltb, le-ltb}
use Rattle.ground.proofs.Cases.{on_test, lt-or-ge}
use Rattle.numerals.specs.Decimals.{decimal}
use Rattle.numerals.proofs.DecimalLaws.{decimal-one, decimal-more}
use Rattle.reals.specs.declared.Exact.{Exact}
use Rattle.reals.specs.Exact.{scaled, size_le, max_below}

power : (k : ℕ) → 0 < 10 ^ k
power k = one-le-pow k 10 (lit< tt)

pub grow : (v k : ℕ) → v ≤ v * 10 ^ k
grow v k = le-mul_of_pos_right v (power k)

pub shift : (v k : ℕ) → 0 < k → 10 * v * 10 ^ (k - 1) ≡ v * 10 ^ k
shift v zero h = absurd (omega arith)
shift v (suc k) h =
    let e : suc k - 1 ≡ k = omega arith in
    rw (e, pow-suc 10 k, mul_assoc 10 v (10 ^ k), ← mul_assoc v (10 ^ k) 10) (omega arith)

leb-scale : (a b p : ℕ) → 0 < p → leb (a * p) (b * p) ≡ leb a b
leb-scale a b p h =
    on_test (leb a b)
    (λ e. le-leb (a * p) (b * p) (mul-le-mul_right p (leb-true a b e)) ∙ sym e)
    (λ e. lt-leb (a * p) (b * p) (mul-lt-mul_of_pos_right (leb-false a b e) h) ∙ sym e)

ltb-not : (a b : ℕ) → ltb a b ≡ not (leb b a)
ltb-not a b =
    on_test (leb b a)
    (λ e. rw e (le-ltb a b (leb-true b a e)))
    (λ e. rw e (lt-ltb a b (leb-false b a e)))

one_more : (v : ℕ) → 10 ≤ v → 10 ^ length (decimal v) ≡ 10 * 10 ^ length (decimal (v / 10))
one_more v l = rw (decimal-more v l, length-append, add-one, pow-succ')

below_by : (k v : ℕ) → v < k → v < 10 ^ length (decimal v)
below_by zero v h = absurd (omega arith)
below_by (suc k) v h =
    ⊎_elim
    (λ l. rw (decimal-one v l) l)
    (λ l. omega (arith, one_more v l, below_by k (v / 10) (omega arith)))
    (lt-or-ge v 10)

pub below-digits : (v : ℕ) → v < 10 ^ length (decimal v)
below-digits v = below_by (suc v) v (omega arith)

least_by : (k v : ℕ) → v < k → 1 ≤ v → 10 ^ length (decimal v) ≤ 10 * v
least_by zero v h g = absurd (omega arith)
least_by (suc k) v h g =
    ⊎_elim
    (λ l. rw (decimal-one v l) (omega arith))
    (λ l. omega (arith, one_more v l, least_by k (v / 10) (omega arith) (omega arith)))
    (lt-or-ge v 10)

pub least-digits : (v : ℕ) → 1 ≤ v → 10 ^ length (decimal v) ≤ 10 * v
least-digits v h = least_by (suc v) v (omega arith) h

pub zero-le : (m x n y : ℕ) → m ≡ 0 → size_le m x n y ≡ true
unfolding size_le
zero-le m x n y h = rw (h, zero-mul (10 ^ x)) (le-leb 0 (n * 10 ^ y) (omega arith))

pub not-le-zero : (m x n y : ℕ) → 0 < m → n ≡ 0 → size_le m x n y ≡ false
unfolding size_le
not-le-zero m x n y h e = rw (e, zero-mul (10 ^ y)) (lt-leb (m * 10 ^ x) 0 (omega (arith, grow m x)))

-- the place of the first digit of m * 10 ^ x
abbrev pub place : ℕ → ℕ → ℕ
place m x = length (decimal m) + x

place-above : (m x : ℕ) → m * 10 ^ x < 10 ^ place m x
place-above m x = rw pow-add (mul-lt-mul_of_pos_right (below-digits m) (power x))

place-within : (m x : ℕ) → 0 < m → 10 ^ place m x ≤ 10 * (m * 10 ^ x)
place-within m x h = rw (pow-add, ← mul_assoc 10 m (10 ^ x)) (mul-le-mul_right (10 ^ x) (least-digits m h))

lower : (m x n y : ℕ) → 0 < n → place m x < place n y → m * 10 ^ x < n * 10 ^ y
lower m x n y h l =
    let t : 10 ^ suc (place m x) ≤ 10 ^ place n y = pow-le-pow_right (lit< tt) l in
    let u : 10 * 10 ^ place m x ≤ 10 ^ place n y = rw pow-succ' at t in
    omega (arith, place-above m x, place-within n y h)

pub apart : (m x n y : ℕ) → 0 < m → 0 < n → (place m x ≡ place n y → ⊥) → size_le m x n y ≡ ltb (place m x) (place n y)
unfolding size_le
apart m x n y h g d =
    on_test (ltb (place m x) (place n y))
    (λ e. let l = lower m x n y g (ltb-true _ _ e) in le-leb (m * 10 ^ x) (n * 10 ^ y) (omega arith) ∙ sym e)
    (λ e. let l = ltb-false (place m x) (place n y) e in lt-leb (m * 10 ^ x) (n * 10 ^ y) (lower n y m x h (omega arith)) ∙ sym e)

-- both times 10 ^ k: the digits with zeros after them, and then the power of ten of the place
raised : (m x i k : ℕ) → i ≤ k → m * 10 ^ x * 10 ^ k ≡ m * 10 ^ (k - i) * 10 ^ (i + x)
raised m x i k h =
    let e : x + k ≡ k - i + (i + x) = omega arith in
    rw (mul_assoc m (10 ^ x) (10 ^ k), ← pow-add 10 x k, e, pow-add 10 (k - i) (i + x), ← mul_assoc m (10 ^ (k - i)) (10 ^ (i + x)))

pub level : (k m x n y : ℕ) → length (decimal m) ≤ k → length (decimal n) ≤ k → place m x ≡ place n y
    → size_le m x n y ≡ leb (m * 10 ^ (k - length (decimal m))) (n * 10 ^ (k - length (decimal n)))
unfolding size_le
level k m x n y h g e =
    sym (leb-scale (m * 10 ^ x) (n * 10 ^ y) (10 ^ k) (power k))
    ∙ rw (raised m x (length (decimal m)) k h, raised n y (length (decimal n)) k g, e)
    (leb-scale (m * 10 ^ (k - length (decimal m))) (n * 10 ^ (k - length (decimal n))) (10 ^ place n y) (power (place n y)))

pub within-places : (k v : ℕ) → length (decimal v) ≤ k → v * 10 ^ (k - length (decimal v)) < 10 ^ k
within-places k v h =
    let e : length (decimal v) + (k - length (decimal v)) ≡ k = omega arith in
    rw e at (place-above v (k - length (decimal v)))

both_below : (a b : ℕ) → lt_z (neg_ℤ (pos a)) (neg_ℤ (pos b)) ≡ not (leb a b)
both_below zero zero = refl
both_below zero (suc b) = rw (le-leb 0 (suc b) (omega arith))
both_below (suc a) zero = rw (lt-leb (suc a) 0 (omega arith))
both_below (suc a) (suc b) = ltb-not b a ∙ ap not (sym (leb-suc-suc a b))

above-below : (a b : ℕ) → lt_z (pos a) (neg_ℤ (pos b)) ≡ false
above-below a zero = le-ltb a 0 (omega arith)
above-below a (suc b) = refl

below-above : (a b : ℕ) → lt_z (neg_ℤ (pos a)) (pos b) ≡ ltb 0 (a + b)
below-above zero b = rw zero-add
below-above (suc a) b = sym (lt-ltb 0 (suc a + b) (omega arith))

-- a power of ten makes no zero of what is none
some : (m x n y : ℕ) → ltb 0 (m * 10 ^ x + n * 10 ^ y) ≡ ltb 0 (m + n)
some m x n y =
    ⊎_elim
    (λ h. lt-ltb 0 (m * 10 ^ x + n * 10 ^ y) (omega (arith, grow m x, grow n y)) ∙ sym (lt-ltb 0 (m + n) h))
    (λ h. let p : m ≡ 0 = omega arith in let q : n ≡ 0 = omega arith in rw (p, q, zero-mul (10 ^ x), zero-mul (10 ^ y)))
    (lt-or-ge 0 (m + n))

module _ (max min : Exact) where
  pub minus_minus : max.minus ≡ true → min.minus ≡ true → max_below max min ≡ not (size_le max.digits max.scale min.digits min.scale)
  unfolding max_below scaled size_le
  minus_minus p q = rw (p, q) (both_below (max.digits * 10 ^ max.scale) (min.digits * 10 ^ min.scale))

  -- below, unless both are zero
  pub minus_plus : max.minus ≡ true → min.minus ≡ false → max_below max min ≡ ltb 0 (max.digits + min.digits)
  unfolding max_below scaled
  minus_plus p q = rw (p, q) (below-above (max.digits * 10 ^ max.scale) (min.digits * 10 ^ min.scale) ∙ some max.digits max.scale min.digits min.scale)

  pub plus-minus : max.minus ≡ false → min.minus ≡ true → max_below max min ≡ false
  unfolding max_below scaled
  plus-minus p q = rw (p, q) (above-below (max.digits * 10 ^ max.scale) (min.digits * 10 ^ min.scale))

  pub plus-plus : max.minus ≡ false → min.minus ≡ false → max_below max min ≡ not (size_le min.digits min.scale max.digits max.scale)
  unfolding max_below scaled size_le
  plus-plus p q = rw (p, q) (ltb-not (max.digits * 10 ^ max.scale) (min.digits * 10 ^ min.scale))
