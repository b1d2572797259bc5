-- Laws of statuses packed into a word.
--     packed_lt                 packed statuses are a number of so many bits
--     pack-off, pack-on         one status more in front: a turn of the loop that packs from the last
--     packed-bit                bit i of packed statuses is status i
--     packed-bits               the bits of a number, packed, are the number
--     lt-of-div                 a number that has no bit from k on is small
-- Assumes nothing.
use Rattle.std.specs.Prelude.{if◌then◌else◌}
use mathlib.Core.Path.{◌≡◌, ◌∙◌}
use mathlib.Core.Bool.{Bool, true, false}
use mathlib.Core.List.{List, [], ◌∷◌}
use Prim.Native.Nat.{ℕ, zero, suc, ◌+◌, ◌-◌, ◌*◌, ◌/◌, ◌%◌, ◌^◌, ◌<◌, ◌≤◌}
use native.Mathlib.Nat.{zero-mul, mod-eq_of_lt, lt_of_lt_of_le, pow-suc, pow-succ', zero-div, div-div-eq-div-mul, div-add-mod', mod-lt}
use native.Mathlib.Omega.{arith}
use borrow.Author.Tests.{eq-eqb, ne_eqb, eqb-true, eqb-false}
use lib.Bits.{bit_or, or_shifted}
use lib.Dec.{lit<, lit≤}
use lib.ListN.{length, get_or, drop, length-drop}
use lib.Pow.{pow_pos, pow_mono}
use Rattle.ground.specs.Tables.{tab}
use Rattle.ground.proofs.Cases.{on_test}
use Rattle.ground.proofs.Walk.{here-any}
use Rattle.ground.proofs.Tables.{tab-ext}
use Rattle.binary_row.specs.Rows.{bit_of}
use Rattle.binary_bytes.specs.Rows.{packed}
use Rattle.ground.proofs.Filled.{tab-front}

-- a status as a bit
bit_le : (b : Bool) → (if b then 1 else 0) ≤ 1
bit_le true = lit≤ tt
bit_le false = lit≤ tt

pub packed_lt : (s : List Bool) → packed s < 2 ^ length s
unfolding packed
packed_lt [] = lit< tt
packed_lt (b ∷ s) = rw pow-suc (omega (arith, packed_lt s, bit_le b))

module _ (s : List Bool) (i v : ℕ) (some : 0 < i) (within : i ≤ length s) (few : length s ≤ 16) (e : v ≡ packed (drop i s)) where
  small : v < 2 ^ 16
  small =
      let l : length (drop i s) ≤ 16 = rw length-drop (omega arith) in
      rw e (lt_of_lt_of_le (packed_lt (drop i s)) (pow_mono l))

  shifted : v * 2 ^ 1 % 4294967296 ≡ v * 2 ^ 1
  shifted = mod-eq_of_lt (omega (arith, small))

  front : packed (drop (i - 1) s) ≡ (if get_or s (i - 1) false then 1 else 0) + 2 * v
  unfolding packed
  front =
      let back : i - 1 + 1 ≡ i = omega arith in
      rw (here-any false s (i - 1) (omega arith), back, e)

  pub pack-off : get_or s (i - 1) false ≡ false → v * 2 ^ 1 % 4294967296 ≡ packed (drop (i - 1) s)
  pack-off t = rw (front, t, shifted) (omega arith)

  pub pack-on : get_or s (i - 1) false ≡ true → bit_or (v * 2 ^ 1 % 4294967296) 1 ≡ packed (drop (i - 1) s)
  pack-on t = rw (front, t, shifted, or_shifted v 1 1 (lit< tt)) (omega arith)

-- the bits from 1 on are those of the half
bit-next : (n i : ℕ) → bit_of n (suc i) ≡ bit_of (n / 2) i
bit-next n i = rw (pow-succ', ← div-div-eq-div-mul)

pub packed-bit : (s : List Bool) (i : ℕ) → bit_of (packed s) i ≡ get_or s i false
unfolding packed
packed-bit [] i = rw zero-div
packed-bit (true ∷ s) zero = eq-eqb ((1 + 2 * packed s) / 1 % 2) 1 (omega arith)
packed-bit (false ∷ s) zero = ne_eqb ((0 + 2 * packed s) / 1 % 2) 1 (λ e. omega arith)
packed-bit (b ∷ s) (suc i) =
    let e : ((if b then 1 else 0) + 2 * packed s) / 2 ≡ packed s = omega (arith, bit_le b) in
    bit-next (packed (b ∷ s)) i ∙ rw e (packed-bit s i)

-- bit 0 is what is left after halving
low : (n : ℕ) → (if bit_of n 0 then 1 else 0) ≡ n % 2
low n =
    on_test (bit_of n 0) (λ t. rw t (omega (arith, eqb-true (n / 2 ^ 0 % 2) 1 t))) (λ t. rw t (omega (arith, eqb-false (n / 2 ^ 0 % 2) 1 t)))

pub packed-bits : (k n : ℕ) → n < 2 ^ k → packed (tab (bit_of n) k) ≡ n
unfolding packed
packed-bits zero n h = omega arith
packed-bits (suc k) n h =
    let l : n / 2 < 2 ^ k = omega (arith, pow-suc 2 k) in
    rw (tab-front, tab-ext (λ i. bit_of n (suc i)) (bit_of (n / 2)) k (λ i q. bit-next n i), packed-bits k (n / 2) l, low) (omega arith)

pub lt-of-div : (n k : ℕ) → n / 2 ^ k ≡ 0 → n < 2 ^ k
lt-of-div n k z = omega (arith, mod-lt n (pow_pos k), rw (z, zero-mul) at (div-add-mod' n (2 ^ k)))
