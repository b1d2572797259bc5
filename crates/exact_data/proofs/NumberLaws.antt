-- The numbers of the page against those of the readers.
--     low-first                      the number that bytes hold
--     twos-exactly, word-exactly     two's complement, and so a sample's number, of which the lowest pattern is kept for a missing one
--     range-exactly, fits-exactly    a number in the range of a layout is a sample of it, and what fits can be written
--     misfit-outside                 what can not be written is there, and below the lowest or above the highest sample
--     no_bits                        a number of which no bit is on is zero
--     padding-exactly                status words have no padding bit exactly when each of their bits past d is off
-- Assumes nothing.
use mathlib.Core.Path.{◌≡◌, refl, sym, ap, ◌∙◌}
use mathlib.Core.Logic.{◌↔◌, ◌⊎◌, inl, inr, ⊎_elim}
use mathlib.Core.Bool.{true, false, not}
use mathlib.Core.List.{List, [], ◌∷◌}
use Prim.Native.Nat.{ℕ, zero, suc, ◌+◌, ◌-◌, ◌*◌, ◌/◌, ◌%◌, ◌^◌, ◌<◌, ◌≤◌}
use native.Mathlib.Nat.{div-eq_of_lt, lt_of_lt_of_le}
use native.Mathlib.Omega.{arith}
use borrow.Author.Tests.{eq-eqb, ne_eqb, eqb-true, eqb-false, le-ltb, ltb-false}
use lib.Dec.{eqb, ltb}
use lib.IntN.{ℤ, pos, negsuc, sub_ℕ, ◌+ℤ◌}
use lib.Pow.{pow_mono, shr-shr, shr_lt}
use lib.Signed.{lt_z, lt_z_no, lt_z_yes, clash_ℤ, ◌≤ℤ◌, ◌<ℤ◌}
use Rattle.ground.specs.Tables.{tab, every}
use Rattle.ground.proofs.Cases.{on_test, lt-or-ge, clash}
use Rattle.ground.proofs.Every.{and_split, and-join}
use Rattle.ground.proofs.Filled.{tab-front}
use Rattle.ground.proofs.Tables.{tab-ext}
use Rattle.words.specs.Words.{word_of, is_byte}
use Rattle.words.specs.Signed.{half, signed_of}
use Rattle.words.proofs.WordLaws.{word_of-part-lt}
use Rattle.words.proofs.SignedLaws.{signed_low, signed_high, half_twice}
use Rattle.model.specs.declared.Layout.{Layout}
use Rattle.std.proofs.Common.{Some}
use Rattle.model.specs.Kinds.{lowest_of, highest_of}
use Rattle.model.specs.Samples.{missing, is_missing, sample_of, holds, fits, sample_of_word}
use Rattle.model.proofs.SampleLaws.{missing-is, is-missing, signed-size, fits-there, there-fits}
use Rattle.binary_row.specs.Rows.{words_of, word_at, bit_of, word_status, padding_free}
use Rattle.binary_bytes.specs.Rows.{packed}
use Rattle.binary_bytes.proofs.PackLaws.{packed-bits, lt-of-div}
use Rattle.paper.specs.Data.{InRange, low_first, TwosComplement, SampleWord}
use Rattle.paper.specs.Written.{FitsIn}

pub low-first : (l : List ℕ) → low_first l ≡ word_of l
unfolding word_of
low-first [] = refl
low-first (b ∷ l) = rw (low-first l)

-- two's complement of n numbers, of which h are not negative
module _ (h n v : ℕ) (twice : h + h ≡ n) (within : v < n) where
  read-to : (z : ℤ) → h ≤ v → pos v ≡ z +ℤ pos n → negsuc (h + h - suc v) ≡ z
  read-to (pos m) k e = absurd (let q : v ≡ m + n = cc in omega arith)
  read-to (negsuc m) k e =
      on_test (ltb n (suc m))
      (λ t. let q : pos v ≡ negsuc (suc m - suc n) = rw (sub_ℕ, t) at e in clash (cc))
      (λ t.
      let q : pos v ≡ pos (n - suc m) = rw (sub_ℕ, t) at e in
      let p : v ≡ n - suc m = cc in
      ap negsuc (omega (arith, ltb-false n (suc m) t)))

  read-from : h ≤ v → pos v ≡ negsuc (h + h - suc v) +ℤ pos n
  read-from k =
      rw (sub_ℕ, le-ltb n (suc (h + h - suc v)) (omega arith)) (ap pos (omega arith))

pub twos-exactly : (w v : ℕ) (z : ℤ) → 1 ≤ w → v < 256 ^ w → TwosComplement w v z ↔ signed_of (half w) v ≡ z
twos-exactly w v z some within = (
  ⊎_elim
      (λ t. signed_low (half w) v t.1 ∙ t.0)
      (λ t. signed_high (half w) v t.1 ∙ read-to (half w) (256 ^ w) v (half_twice w some) within z t.1 t.0),
  λ e.
      ⊎_elim
      (λ l. inl (sym (signed_low (half w) v l) ∙ e, l))
      (λ l. inr (read-from (half w) (256 ^ w) v (half_twice w some) within l ∙ ap (λ (y : ℤ). y +ℤ pos (256 ^ w)) (sym (signed_high (half w) v l) ∙ e), l))
      (lt-or-ge v (half w)),
)

-- a sample's number, of w bytes: h is half of them
module _ (w v : ℕ) (z : ℤ) (some : 1 ≤ w) (small : half w ≤ 2 ^ 31) (within : v < 256 ^ w) where
  word-to : SampleWord w v (sample_of z) → sample_of_word (half w) v ≡ z
  unfolding sample_of sample_of_word
  word-to =
      on_test (is_missing z)
      (λ t. rw t (λ e. rw (eq-eqb v (half w) e, is-missing z t)))
      (λ t. rw t (λ e. rw (ne_eqb v (half w) e.0) ((twos-exactly w v z some within).0 e.1)))

  word-from : sample_of_word (half w) v ≡ z → SampleWord w v (sample_of z)
  unfolding sample_of sample_of_word
  word-from e =
      on_test (eqb v (half w))
      (λ t. let q : missing ≡ z = rw t at e in rw (← q, missing-is) (eqb-true v (half w) t))
      (λ t.
      let q : signed_of (half w) v ≡ z = rw t at e in
      let n = eqb-false v (half w) t in
      let there = rw q at (signed-size (half w) small v (rw (half_twice w some) within) n).0 in
      rw there (n, (twos-exactly w v z some within).1 q))

  pub word-exactly : SampleWord w v (sample_of z) ↔ sample_of_word (half w) v ≡ z
  word-exactly = (word-to, word-from)

not-below : (a b : ℤ) → not (lt_z a b) ≡ true ↔ b ≤ℤ a
not-below a b =
    (λ e. lt_z_no {a = a} {b = b} (rw e tt), λ h. on_test (lt_z a b) (λ t. clash_ℤ (lt_z_yes {a = a} {b = b} (rw t tt)) h) (λ t. rw t))

module _ (l : Layout) (z : ℤ) where
  abbrev low : ℤ
  low = lowest_of l.kind l.edition

  abbrev high : ℤ
  high = highest_of l.kind l.edition

  pub range-exactly : holds l z ≡ true ↔ InRange l z
  unfolding holds
  range-exactly = (
    λ e.
        let s = and_split (not (lt_z z low)) (not (lt_z high z)) e in
        record { low = (not-below z low).0 s.0; high = (not-below high z).0 s.1 },
    λ r. and-join (not (lt_z z low)) (not (lt_z high z)) ((not-below z low).1 r.low) ((not-below high z).1 r.high),
  )

  pub fits-exactly : fits l z ≡ true ↔ FitsIn l (sample_of z)
  unfolding sample_of
  fits-exactly = (
    λ e. on_test (is_missing z) (λ t. rw t tt) (λ t. rw t (range-exactly.0 (fits-there l z e t))),
    λ f. there-fits l z (λ t. range-exactly.1 (rw t at f)),
  )

  beyond : holds l z ≡ false → (z <ℤ low) ⊎ (high <ℤ z)
  unfolding holds
  beyond e =
      on_test (lt_z z low)
      (λ t. inl (lt_z_yes {a = z} {b = low} (rw t tt)))
      (λ t. on_test (lt_z high z) (λ u. inr (lt_z_yes {a = high} {b = z} (rw u tt))) (λ u. let q : true ≡ false = rw (t, u) at e in clash (cc)))

  pub misfit-outside : fits l z ≡ false → (sample_of z ≡ Some z) × ((z <ℤ low) ⊎ (high <ℤ z))
  unfolding fits sample_of
  misfit-outside e =
      on_test (is_missing z)
      (λ t. let q : true ≡ false = rw t at e in clash (cc))
      (λ t. (rw t, beyond (rw t at e)))

packed_none : (k : ℕ) → packed (tab (λ i. false) k) ≡ 0
unfolding packed
packed_none zero = refl
packed_none (suc k) = rw (tab-front (λ i. false) k, packed_none k)

pub no_bits : (k n : ℕ) → n < 2 ^ k → ((i : ℕ) → i < k → bit_of n i ≡ false) → n ≡ 0
no_bits k n h f = sym (packed-bits k n h) ∙ ap packed (tab-ext (bit_of n) (λ i. false) k f) ∙ packed_none k

-- status words of d statuses
module _ (d : ℕ) (b : List ℕ) (bytes : every is_byte b ≡ true) where
  -- the last of them, if it is not filled, and how many of its bits are statuses
  abbrev last : ℕ
  last = word_at b (d / 16)

  abbrev used : ℕ
  used = d % 16

  padding-to : padding_free d b ≡ true → (i : ℕ) → d ≤ i → i < 16 * words_of d → word_status b i ≡ false
  padding-to p i h k =
      let n : eqb used 0 ≡ false = ne_eqb used 0 (λ z. omega arith) in
      let small : last < 2 ^ used = lt-of-div last used (eqb-true (last / 2 ^ used) 0 (rw n at p)) in
      let q : i / 16 ≡ d / 16 = omega arith in
      let m : used ≤ i % 16 = omega arith in
      rw (q, div-eq_of_lt (lt_of_lt_of_le small (pow_mono m)))

  padding-from : ((i : ℕ) → d ≤ i → i < 16 * words_of d → word_status b i ≡ false) → padding_free d b ≡ true
  padding-from f =
      on_test (eqb used 0) (λ t. rw t)
      (λ t.
      let n = eqb-false used 0 t in
      let e : 16 - used + used ≡ 16 = omega arith in
      let small : last / 2 ^ used < 2 ^ (16 - used) = shr_lt {n = last} (16 - used) used (rw e (word_of-part-lt b (d / 16 * 2) (d / 16 * 2 + 2) 2 bytes (omega arith))) in
      rw t
      (eq-eqb (last / 2 ^ used) 0
      (no_bits (16 - used) (last / 2 ^ used) small
      (λ i h.
      let q : (d + i) / 16 ≡ d / 16 = omega arith in
      let m : (d + i) % 16 ≡ used + i = omega arith in
      rw (shr-shr last used i) (rw (q, m) at (f (d + i) (omega arith) (omega arith)))))))

  pub padding-exactly : padding_free d b ≡ true ↔ ((i : ℕ) → d ≤ i → i < 16 * words_of d → word_status b i ≡ false)
  padding-exactly = (padding-to, padding-from)
