-- Laws of what a place of a row says, of the numbers that places are written as, and of the samples that a layout holds.
--     missing-is, is-missing, missing-below     the place of a missing sample: the one number of 32 bits below the lowest sample
--     none_is, is-none, none_below, small-none  the number for "there is none" likewise, and that no number of 32 bits is it
--     size-mag                                  a number of a size below h
--     signed-size                               a number that is not kept is read as a sample
--     word-has, number-back                     a number says a place, and is what that place is written as
--     place-number, place-back                  a place is written as a number, and is what that number says
--     sample-back, sample-bytes-back            a sample is read as it was written, and its bytes are written as they were read
--     holds-size, size_holds                    a sample of a layout is smaller than half of the numbers of its width, and the other way round
--     short-told, short-holds                   a number in the range of the kind binary, by two tests; it is a sample of every layout
--     holds-there                               a sample of a layout is not missing
--     missing-fits, fits-there, there-fits      a missing sample can be written in every layout, any other where it is a sample of it
--     fits_word, word_fits                      what can be written has a number, and the other way round
--     fits-small                                what can be written is a number of 32 bits
--     mark-below, mark-above, mark-is           the number that marks a missing sample: no other, below or above
--     mark-word                                 the number that marks a missing sample, by its 64 bits
--     mark-out                                  the number that marks a missing sample is no sample of a marked text
-- Assumes nothing.
use mathlib.Core.Path.{◌≡◌, refl}
use mathlib.Core.Bool.{true, false, not, ◌&&◌}
use mathlib.Core.List.{List}
use mathlib.Core.Logic.{⊎_elim}
use Prim.Native.Nat.{ℕ, suc, ◌+◌, ◌-◌, ◌^◌, ◌<◌, ◌≤◌}
use native.Mathlib.Nat.{one-le-pow}
use native.Mathlib.Omega.{arith}
use borrow.Author.Tests.{eq-eqb, ne_eqb, eqb-true, eqb-false, ltb-true, ltb-false, le-ltb, not-true}
use lib.Dec.{lit<, eqb, ltb}
use lib.IntN.{ℤ, pos, negsuc, nat_abs}
use lib.ListN.{length}
use lib.Signed.{mag, lt_z}
use mir.Syntax.{w64}
use mir.Val.{of_z, SFits}
use Rattle.ground.specs.Tables.{every}
use Rattle.ground.proofs.Cases.{on_test, lt-or-ge}
use Rattle.ground.proofs.Every.{and_split}
use Rattle.words.specs.Words.{word_of, word_bytes, is_byte}
use Rattle.words.specs.Signed.{half, signed_of, unsigned_of, is_lowest}
use Rattle.words.proofs.WordLaws.{word_of-lt, word_back, bytes_back}
use Rattle.words.proofs.SignedLaws.{signed_low, signed_high, signed_back, unsigned_back, unsigned_small, half_twice, is-lowest, lowest-below}
use Rattle.model.specs.declared.Kind.{Kind}
use Rattle.model.specs.declared.Kind.TheVariants.{Ascii, Binary, Binary32}
use Rattle.model.specs.declared.Edition.{Edition}
use Rattle.model.specs.declared.Edition.TheVariants.{Y2013, Y1999}
use Rattle.model.specs.declared.Layout.{Layout}
use Rattle.model.specs.Kinds.{half_of, lowest_of, highest_of}
use Rattle.model.specs.Samples.{missing, is_missing, none, is_none, holds, fits, sample_of_word, word_of_sample, marked_in, marked, is_mark}
use Rattle.model.specs.Inner.{HasWord}
use Rattle.model.proofs.KindLaws.{half_le}

pub missing-is : is_missing missing ≡ true
unfolding is_missing is_lowest
missing-is = refl

pub is-missing : (z : ℤ) → is_missing z ≡ true → z ≡ missing
unfolding is_missing
is-missing = is-lowest 2147483647

pub missing-below : (z : ℤ) → mag z < 2 ^ 31 → lt_z z (negsuc 2147483646) ≡ is_missing z
unfolding is_missing
missing-below z f = lowest-below 2147483646 z (omega arith)

pub none_is : is_none none ≡ true
unfolding is_none is_lowest
none_is = refl

pub is-none : (z : ℤ) → is_none z ≡ true → z ≡ none
unfolding is_none
is-none = is-lowest 9223372036854775807

pub none_below : (z : ℤ) → mag z < 2 ^ 63 → lt_z z (negsuc 9223372036854775806) ≡ is_none z
unfolding is_none
none_below z f = lowest-below 9223372036854775806 z (omega arith)

pub small-none : (z : ℤ) → mag z < 2 ^ 31 → is_none z ≡ false
unfolding is_none is_lowest
small-none (pos n) f = refl
small-none (negsuc n) f = ne_eqb n 9223372036854775807 (λ e. omega arith)

pub size-mag : (h : ℕ) (z : ℤ) → nat_abs z < h → mag z < h
size-mag h (pos n) f = f
size-mag h (negsuc n) f = omega arith

-- h is half of the numbers of a width
module _ (h : ℕ) where
  -- a number that is not h is read as a sample, and its size is below h
  pub signed-size : h ≤ 2 ^ 31 → (n : ℕ) → n < h + h → (n ≡ h → ⊥) → (is_missing (signed_of h n) ≡ false) × (nat_abs (signed_of h n) < h)
  unfolding is_missing is_lowest
  signed-size small n u e =
      ⊎_elim
      (λ l. rw (signed_low h n l) (refl, l))
      (λ l. rw (signed_high h n l) (ne_eqb (h + h - suc n) 2147483647 (λ q. e (omega arith)), omega arith))
      (lt-or-ge n h)

  pub word-has : h ≤ 2 ^ 31 → (n : ℕ) → n < h + h → HasWord h (sample_of_word h n)
  unfolding sample_of_word
  word-has small n u =
      on_test (eqb n h)
      (λ t. rw (t, missing-is) (λ x. let q : ◌≡◌ {A = ℕ} 0 1 = cc in absurd (omega arith)))
      (λ t. rw t (λ x. (signed-size small n u (eqb-false n h t)).1))

  pub number-back : h ≤ 2 ^ 31 → (n : ℕ) → n < h + h → word_of_sample h (sample_of_word h n) ≡ n
  unfolding sample_of_word word_of_sample
  number-back small n u =
      on_test (eqb n h)
      (λ t. rw (t, missing-is, eqb-true n h t))
      (λ t. rw (t, (signed-size small n u (eqb-false n h t)).0) (unsigned_back h n u))

  pub place-number : 1 ≤ h → (z : ℤ) → HasWord h z → word_of_sample h z < h + h
  unfolding word_of_sample
  place-number some z f =
      on_test (is_missing z)
      (λ t. rw t (omega arith))
      (λ t. rw t (unsigned_small h z (size-mag h z (f t))))

  -- a sample is not written as h
  number-not : (z : ℤ) → nat_abs z < h → unsigned_of h z ≡ h → ⊥
  unfolding unsigned_of
  number-not (pos n) f e = omega arith
  number-not (negsuc n) f e = omega arith

  pub place-back : (z : ℤ) → HasWord h z → sample_of_word h (word_of_sample h z) ≡ z
  unfolding sample_of_word word_of_sample
  place-back z f =
      on_test (is_missing z)
      (λ t. rw (t, eq-eqb h h refl, is-missing z t))
      (λ t. rw (t, ne_eqb (unsigned_of h z) h (number-not z (f t))) (signed_back h z (size-mag h z (f t))))

-- w is a width in bytes
module _ (w : ℕ) (p : 1 ≤ w) where
  pub sample-back : (z : ℤ) → HasWord (half w) z → sample_of_word (half w) (word_of (word_bytes w (word_of_sample (half w) z))) ≡ z
  sample-back z f =
      let some : 1 ≤ half w = omega (arith, half_twice w p, one-le-pow w 256 (lit< tt)) in
      let u : word_of_sample (half w) z < 256 ^ w = rw (half_twice w p) at (place-number (half w) some z f) in
      rw (word_back w (word_of_sample (half w) z) u) (place-back (half w) z f)

  pub sample-bytes-back : half w ≤ 2 ^ 31 → (l : List ℕ) → length l ≡ w → every is_byte l ≡ true
      → word_bytes w (word_of_sample (half w) (sample_of_word (half w) (word_of l))) ≡ l
  sample-bytes-back small l e b =
      let u : word_of l < half w + half w = rw (half_twice w p, ← e) (word_of-lt l b) in
      rw (number-back (half w) small (word_of l) u, ← e) (bytes_back l b)

-- m + 1 is the highest sample of a range, and -(m + 1) the lowest
within : (m : ℕ) (z : ℤ) → not (lt_z z (negsuc m)) && not (lt_z (pos (suc m)) z) ≡ true → nat_abs z ≤ suc m
within m (pos n) e = ltb-false (suc m) n (not-true (ltb (suc m) n) e)
within m (negsuc n) e = omega (arith, ltb-false m n (not-true (ltb m n) (and_split (not (ltb m n)) true e).0))

inside : (m : ℕ) (z : ℤ) → nat_abs z ≤ suc m → not (lt_z z (negsuc m)) && not (lt_z (pos (suc m)) z) ≡ true
inside m (pos n) h = rw (le-ltb (suc m) n h)
inside m (negsuc n) h = rw (le-ltb m n (omega arith))

-- the range of the marked text is not the same above and below: 99999 is no sample, and -99999 is one
marked-size : (z : ℤ) → not (lt_z z (negsuc 99998)) && not (lt_z (pos 99998) z) ≡ true → nat_abs z ≤ 99999
marked-size (pos n) e = omega (arith, ltb-false 99998 n (not-true (ltb 99998 n) e))
marked-size (negsuc n) e = omega (arith, ltb-false 99998 n (not-true (ltb 99998 n) (and_split (not (ltb 99998 n)) true e).0))

kind-size : (k : Kind) (e : Edition) (z : ℤ) → not (lt_z z (lowest_of k e)) && not (lt_z (highest_of k e) z) ≡ true → nat_abs z < half_of k
kind-size Ascii Y2013 z h = omega (arith, within 2147483646 z h)
kind-size Ascii Y1999 z h = omega (arith, marked-size z h)
kind-size Binary e z h = omega (arith, within 32766 z h)
kind-size Binary32 e z h = omega (arith, within 2147483646 z h)

size-kind : (k : Kind) (e : Edition) (z : ℤ) → (k ≡ Ascii → ⊥) → nat_abs z < half_of k → not (lt_z z (lowest_of k e)) && not (lt_z (highest_of k e) z) ≡ true
size-kind Ascii e z binary h = absurd (binary refl)
size-kind Binary e z binary h = inside 32766 z (omega arith)
size-kind Binary32 e z binary h = inside 2147483646 z (omega arith)

pub mark-below : (z : ℤ) → lt_z z (pos 99999) ≡ true → is_mark z ≡ false
unfolding is_mark
mark-below (pos n) e = ne_eqb n 99999 (λ q. omega (arith, ltb-true n 99999 e))
mark-below (negsuc n) e = refl

pub mark-above : (z : ℤ) → lt_z (pos 99999) z ≡ true → is_mark z ≡ false
unfolding is_mark
mark-above (pos n) e = ne_eqb n 99999 (λ q. omega (arith, ltb-true 99999 n e))
mark-above (negsuc n) e = refl

pub mark-is : (z : ℤ) → lt_z z (pos 99999) ≡ false → lt_z (pos 99999) z ≡ false → is_mark z ≡ true
unfolding is_mark
mark-is (pos n) low high = eq-eqb n 99999 (omega (arith, ltb-false n 99999 low, ltb-false 99999 n high))
mark-is (negsuc n) low high = cc

pub mark-word : (z : ℤ) → SFits w64 z → eqb (of_z w64 z) 99999 ≡ is_mark z
unfolding is_mark
mark-word (pos n) f = refl
mark-word (negsuc n) f = ne_eqb _ 99999 (λ e. omega (arith, f.sfits))

mark-outside : (k : Kind) (e : Edition) (z : ℤ) → marked_in k e ≡ true → is_mark z ≡ true → not (lt_z z (lowest_of k e)) && not (lt_z (highest_of k e) z) ≡ false
unfolding is_mark
mark-outside Ascii Y2013 z m t = cc
mark-outside Ascii Y1999 (pos n) m t = rw (eqb-true n 99999 t)
mark-outside Ascii Y1999 (negsuc n) m t = cc
mark-outside Binary e z m t = cc
mark-outside Binary32 e z m t = cc

pub short-told : (z : ℤ) → lt_z z (negsuc 32766) ≡ false → lt_z (pos 32767) z ≡ false → nat_abs z < 32768
short-told z low high = let e : not (lt_z z (negsuc 32766)) && not (lt_z (pos 32767) z) ≡ true = rw (low, high) in omega (arith, within 32766 z e)

short-kind : (k : Kind) (e : Edition) (z : ℤ) → nat_abs z < 32768 → not (lt_z z (lowest_of k e)) && not (lt_z (highest_of k e) z) ≡ true
short-kind Ascii Y2013 z h = inside 2147483646 z (omega arith)
short-kind Ascii Y1999 (pos n) h = rw (le-ltb 99998 n (omega arith))
short-kind Ascii Y1999 (negsuc n) h = rw (le-ltb 99998 n (omega arith))
short-kind Binary e z h = inside 32766 z (omega arith)
short-kind Binary32 e z h = inside 2147483646 z (omega arith)

module _ (l : Layout) where
  pub short-holds : (z : ℤ) → nat_abs z < 32768 → holds l z ≡ true
  unfolding holds
  short-holds = short-kind l.kind l.edition

  pub holds-size : (z : ℤ) → holds l z ≡ true → nat_abs z < half_of l.kind
  unfolding holds
  holds-size = kind-size l.kind l.edition

  pub size_holds : (z : ℤ) → (l.kind ≡ Ascii → ⊥) → nat_abs z < half_of l.kind → holds l z ≡ true
  unfolding holds
  size_holds z binary = size-kind l.kind l.edition z binary

  -- the size of the place of a missing sample is not below any half
  pub holds-there : (z : ℤ) → holds l z ≡ true → is_missing z ≡ false
  holds-there z e =
      on_test (is_missing z)
      (λ t. absurd (omega (arith, half_le l.kind, (rw (is-missing z t) at (holds-size z e)))))
      (λ t. t)

  pub missing-fits : fits l missing ≡ true
  unfolding fits
  missing-fits = rw missing-is

  pub fits-there : (z : ℤ) → fits l z ≡ true → is_missing z ≡ false → holds l z ≡ true
  unfolding fits
  fits-there z e t = rw t at e

  pub there-fits : (z : ℤ) → (is_missing z ≡ false → holds l z ≡ true) → fits l z ≡ true
  unfolding fits
  there-fits z f = on_test (is_missing z) (λ t. rw t) (λ t. rw (t, f t))

  pub fits_word : (z : ℤ) → fits l z ≡ true → HasWord (half_of l.kind) z
  fits_word z e t = holds-size z (fits-there z e t)

  pub word_fits : (z : ℤ) → (l.kind ≡ Ascii → ⊥) → HasWord (half_of l.kind) z → fits l z ≡ true
  word_fits z binary f = there-fits z (λ t. size_holds z binary (f t))

  pub fits-small : (z : ℤ) → fits l z ≡ true → mag z < 2 ^ 31
  fits-small z e =
      on_test (is_missing z)
      (λ t. rw (is-missing z t) (omega arith))
      (λ t. omega (arith, half_le l.kind, size-mag (half_of l.kind) z (fits_word z e t)))

  pub mark-out : (z : ℤ) → marked l ≡ true → is_mark z ≡ true → holds l z ≡ false
  unfolding marked holds
  mark-out = mark-outside l.kind l.edition
