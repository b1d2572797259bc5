-- Laws of shifts and masks, and of the bits of a word.
--     low_bit                   a mask that leaves the lowest bit
--     mask-test                 the mask above k bits of a word finds none of them set
--     word-statuses             the low bits of word j are the statuses from 16 * j on
-- Assumes nothing.
use mathlib.Core.Path.{◌≡◌, sym, ◌∙◌}
use mathlib.Core.List.{List}
use Prim.Native.Nat.{ℕ, zero, suc, ◌+◌, ◌-◌, ◌*◌, ◌/◌, ◌%◌, ◌^◌, ◌<◌, ◌≤◌}
use native.Mathlib.Nat.{zero-mul, suc-mul, mod-eq_of_lt, le_of_lt, lt_of_le_of_lt, div-le_self}
use native.Mathlib.Omega.{arith}
use borrow.Author.Tests.{ne_eqb}
use lib.Bits.{bit_and, and_mask, and_high}
use lib.Dec.{eqb}
use lib.Pow.{pow-add, pow_pos, pow_mono}
use Rattle.ground.specs.Tables.{tab}
use Rattle.ground.proofs.Tables.{tab-ext}
use Rattle.binary_row.specs.Rows.{bit_of, word_at, word_status}

pub low_bit : (n : ℕ) → bit_and n 1 ≡ n % 2
low_bit n = and_mask n 1

scaled-zero : (q p : ℕ) → 0 < p → eqb (q * p) 0 ≡ eqb q 0
scaled-zero zero p h = rw zero-mul
scaled-zero (suc q) p h =
    ne_eqb (suc q * p) 0 (λ e. omega (arith, suc-mul q p)) ∙ sym (ne_eqb (suc q) 0 (λ e. omega arith))

pub mask-test : (n k : ℕ) → n < 65536 → k < 16 → eqb (bit_and n (65535 * 2 ^ k % 4294967296)) 0 ≡ eqb (n / 2 ^ k) 0
mask-test n k b h =
    let e : 65535 * 2 ^ k % 4294967296 ≡ 2 ^ (16 + k) - 2 ^ k
    = mod-eq_of_lt (omega (arith, pow_mono (le_of_lt h))) ∙ omega (arith, pow-add 2 16 k) in
    let small : n / 2 ^ k < 2 ^ 16 = lt_of_le_of_lt (div-le_self n (2 ^ k)) b in
    rw (e, and_high n 16 k, mod-eq_of_lt small) (scaled-zero (n / 2 ^ k) (2 ^ k) (pow_pos k))

pub word-statuses : (b : List ℕ) (j k : ℕ) → k ≤ 16 → tab (bit_of (word_at b j)) k ≡ tab (λ i. word_status b (j * 16 + i)) k
word-statuses b j k h =
    tab-ext (bit_of (word_at b j)) (λ i. word_status b (j * 16 + i)) k
    (λ i l.
    let q : (j * 16 + i) / 16 ≡ j = omega arith in
    let m : (j * 16 + i) % 16 ≡ i = omega arith in
    rw (q, m))
