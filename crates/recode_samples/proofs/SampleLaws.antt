-- Laws of one sample between the kinds of 16 and 32 bits.
--     put_four                   four elements are stored
--     word-two-bytes, word-four-bytes     the bytes of a number, one by one
--     word_two, word-four        the number of bytes, one by one
--     extended-is, long-is       16 bits in 32
--     short-is                   a number of 32 bits that says what fits in 16, in 16
--     short-stray, stray-short, stray-low, stray-kept, stray-mid, stray-high, stray-le     which samples do not fit in 16
--     length-recoded             what is recoded has its width
--     recoded-all                a slice that a samples have filled
--     strays-next, none-counted, none-strays, no_stray     samples that do not fit, counted
--     narrow, search-on, search-here     a turn of the search for the first
-- Assumes nothing.
use mathlib.Core.Path.{◌≡◌, refl, sym, ap, ◌∙◌}
use mathlib.Core.Bool.{Bool, true}
use mathlib.Core.Logic.{⊎_elim}
use mathlib.Core.List.{[], List, ◌∷◌, ◌++◌, append-nil}
use Prim.Native.Nat.{ℕ, zero, suc, ◌+◌, ◌-◌, ◌*◌, ◌/◌, ◌%◌, ◌<◌, ◌≤◌}
use native.Mathlib.Nat.{div-one}
use native.Mathlib.Numerals.{add-one}
use native.Mathlib.Omega.{arith}
use borrow.Author.Tests.{eq-eqb, ne_eqb}
use lib.IntN.{pos, negsuc}
use lib.ListN.{length, get_or, set, drop}
use lib.Seq.{drop-length}
use Rattle.ground.specs.Search.{fails_from}
use Rattle.ground.specs.Tables.{tab, cat}
use Rattle.ground.proofs.Cases.{on_test, lt-or-ge, clash}
use Rattle.ground.proofs.Search.{fail-step}
use Rattle.ground.proofs.Tables.{get_or-tab, tab-get_or}
use Rattle.words.specs.Words.{word_of, word_bytes}
use Rattle.words.specs.Signed.{signed_of, unsigned_of, is_lowest}
use Rattle.words.proofs.WordLaws.{length-word_bytes}
use Rattle.words.proofs.SignedLaws.{signed_low, signed_high}
use Rattle.model.specs.declared.Kind.{Kind}
use Rattle.model.specs.declared.Kind.TheVariants.{Ascii, Binary, Binary32}
use Rattle.model.specs.Kinds.{width_of, kind_number}
use Rattle.model.specs.Samples.{missing, is_missing, holds, fits, sample_of_word, word_of_sample}
use Rattle.model.proofs.SampleLaws.{missing-is, missing-fits, fits_word, word_fits}
use Rattle.model.proofs.FitLaws.{misfit-all, all-misfit}
use Rattle.recode_samples.specs.Inner.{decoded, bytes_at, samples_in, recoded, recoded_all, short, is_short, stray_of, strays_of, first_stray, NoStray}

elements : (l : List ℕ) (n : ℕ) → length l ≡ n → l ≡ tab (λ i. get_or l i 0) n
elements l n h = sym (tab-get_or l 0) ∙ rw h

pub put_four : (l : List ℕ) (a b c d : ℕ) → length l ≡ 4 → set (set (set (set l 0 a) 1 b) 2 c) 3 d ≡ a ∷ b ∷ c ∷ d ∷ []
put_four l a b c d h = rw (elements l 4 h)

-- bytes, one by one
module _ (n : ℕ) where
  pub word-two-bytes : word_bytes 2 n ≡ n % 256 ∷ n / 256 % 256 ∷ []
  unfolding word_bytes
  word-two-bytes = rw div-one

  pub word-four-bytes : word_bytes 4 n ≡ n % 256 ∷ n / 256 % 256 ∷ n / 65536 % 256 ∷ n / 16777216 % 256 ∷ []
  unfolding word_bytes
  word-four-bytes = rw div-one

module _ (b : List ℕ) where
  pub word_two : length b ≡ 2 → word_of b ≡ get_or b 0 0 + 256 * get_or b 1 0
  unfolding word_of
  word_two e = ap word_of (elements b 2 e) ∙ omega arith

  pub word-four : length b ≡ 4 → word_of b ≡ get_or b 0 0 + 256 * get_or b 1 0 + 65536 * get_or b 2 0 + 16777216 * get_or b 3 0
  unfolding word_of
  word-four e = ap word_of (elements b 4 e) ∙ omega arith

-- a number and the place that it says, of which h is half
module _ (h : ℕ) where
  place_kept : sample_of_word h h ≡ missing
  unfolding sample_of_word
  place_kept = rw (eq-eqb h h refl)

  place-low : (n : ℕ) → n < h → sample_of_word h n ≡ pos n
  unfolding sample_of_word
  place-low n l = rw (ne_eqb n h (λ e. omega arith)) (signed_low h n l)

  place-high : (n : ℕ) → h < n → sample_of_word h n ≡ negsuc (h + h - suc n)
  unfolding sample_of_word
  place-high n l = rw (ne_eqb n h (λ e. omega arith)) (signed_high h n (omega arith))

  number-kept : word_of_sample h missing ≡ h
  unfolding word_of_sample
  number-kept = rw missing-is

  number-low : (n : ℕ) → word_of_sample h (pos n) ≡ n
  unfolding word_of_sample is_missing is_lowest unsigned_of
  number-low n = refl

  number-high : (m : ℕ) → m < 2147483647 → word_of_sample h (negsuc m) ≡ h + h - suc m
  unfolding word_of_sample is_missing is_lowest unsigned_of
  number-high m l = rw (ne_eqb m 2147483647 (λ e. omega arith))

-- a number is below h, or h, or above
on-half : {C : Type 0} (h n : ℕ) → (n < h → C) → (n ≡ h → C) → (h < n → C) → C
on-half h n low kept high = ⊎_elim low (λ l. ⊎_elim (λ u. kept (omega arith)) high (lt-or-ge n (suc h))) (lt-or-ge n h)

-- up by half of the numbers of 16 bits, and down again by as many
pub extended-is : (n : ℕ) → n < 65536 → ((n + 32768) % 65536 + 4294934528) % 4294967296 ≡ unsigned_of 2147483648 (signed_of 32768 n)
unfolding unsigned_of
extended-is n h =
    ⊎_elim
    (λ l. let e : signed_of 32768 n ≡ _ = signed_low 32768 n l in rw e (omega arith))
    (λ l. let e : signed_of 32768 n ≡ _ = signed_high 32768 n l in rw e (omega arith))
    (lt-or-ge n 32768)

-- a number of 16 bits, extended
module _ (n : ℕ) (small : n < 65536) (w : ℕ) (e : w ≡ unsigned_of 2147483648 (signed_of 32768 n)) where
  extended-low : n < 32768 → w ≡ n
  unfolding unsigned_of
  extended-low l = e ∙ rw (signed_low 32768 n l)

  extended-high : 32768 ≤ n → w ≡ n + 4294901760
  unfolding unsigned_of
  extended-high l = e ∙ rw (signed_high 32768 n l) (omega arith)

  pub long-is : w - (w + 32767) % 4294967296 / 2147483648 * 2147450880 ≡ word_of_sample 2147483648 (sample_of_word 32768 n)
  long-is =
      on-half 32768 n
      (λ l. rw (place-low 32768 n l, number-low) (omega (arith, extended-low l)))
      (λ l. rw (l, place_kept, number-kept) (omega (arith, extended-high (omega arith))))
      (λ l. rw (place-high 32768 n l, number-high 2147483648 (65536 - suc n) (omega arith)) (omega (arith, extended-high (omega arith))))

-- the kind of 16 bits is not text
not-text : Binary ≡ Ascii → ⊥
not-text e = omega (arith, ap kind_number e)

-- which numbers of 32 bits say what fits in 16
module _ (n : ℕ) where
  short-low : n < 32768 → is_short n ≡ true
  short-low l = word_fits (short 1) (sample_of_word 2147483648 n) not-text (rw (place-low 2147483648 n (omega arith)) (λ t. l))

  short-kept : n ≡ 2147483648 → is_short n ≡ true
  short-kept e = rw (e, place_kept) (missing-fits (short 1))

  short-high : 4294934528 < n → n < 4294967296 → is_short n ≡ true
  short-high l u = word_fits (short 1) (sample_of_word 2147483648 n) not-text (rw (place-high 2147483648 n (omega arith)) (λ t. omega arith))

  on-short : {C : Type 0} → is_short n ≡ true → n < 4294967296 → (n < 32768 → C) → (n ≡ 2147483648 → C) → (4294934528 < n → C) → C
  unfolding is_missing is_lowest
  on-short t u low kept high =
      let has = fits_word (short 1) (sample_of_word 2147483648 n) t in
      on-half 2147483648 n
      (λ l. low ((rw (place-low 2147483648 n l) at has) refl))
      kept
      (λ l.
      let m = 4294967296 - suc n in
      let q : suc m < 32768 = (rw (place-high 2147483648 n l) at has) (ne_eqb m 2147483647 (λ e. omega arith)) in
      high (omega arith))

  pub short-is : is_short n ≡ true → n < 4294967296 → n % 32768 + n / 2147483648 * 32768 ≡ word_of_sample 32768 (sample_of_word 2147483648 n)
  short-is t u =
      on-short t u
      (λ l. rw (place-low 2147483648 n (omega arith), number-low) (omega arith))
      (λ l. rw (l, place_kept, number-kept))
      (λ l. rw (place-high 2147483648 n (omega arith), number-high 32768 (4294967296 - suc n) (omega arith)) (omega arith))

module _ (b : List ℕ) where
  pub short-stray : is_short (word_of b) ≡ true → stray_of b ≡ 0
  unfolding stray_of
  short-stray t = rw t

  pub stray-short : stray_of b ≡ 0 → is_short (word_of b) ≡ true
  unfolding stray_of
  stray-short e = on_test (is_short (word_of b)) (λ t. t) (λ t. let q : ◌≡◌ {A = ℕ} 1 0 = rw t at e in clash (sym q))

  pub stray-low : word_of b < 32768 → stray_of b ≡ 0
  stray-low l = short-stray (short-low (word_of b) l)

  pub stray-kept : word_of b ≡ 2147483648 → stray_of b ≡ 0
  stray-kept e = short-stray (short-kept (word_of b) e)

  pub stray-high : 4294934528 < word_of b → word_of b < 4294967296 → stray_of b ≡ 0
  stray-high l u = short-stray (short-high (word_of b) l u)

  pub stray-mid : 32768 ≤ word_of b → (word_of b ≡ 2147483648 → ⊥) → word_of b ≤ 4294934528 → stray_of b ≡ 1
  unfolding stray_of
  stray-mid l other u =
      on_test (is_short (word_of b))
      (λ t. absurd (on-short (word_of b) t (omega arith) (λ q. omega arith) other (λ q. omega arith)))
      (λ t. rw t)

  pub stray-le : stray_of b ≤ 1
  unfolding stray_of
  stray-le = on_test (is_short (word_of b)) (λ t. rw t (omega arith)) (λ t. rw t (omega arith))

-- many samples
pub length-recoded : (k m : Kind) (b : List ℕ) → length (recoded k m b) ≡ width_of m
unfolding recoded
length-recoded k m b = length-word_bytes (width_of m) _

pub recoded-all : (k m : Kind) (a i : ℕ) (b d₀ d : List ℕ) → i ≡ a → length d₀ ≡ a * width_of m
    → d ≡ cat (λ j. recoded k m (bytes_at k b j)) i ++ drop (i * width_of m) d₀ → d ≡ recoded_all k m a b
unfolding recoded_all
recoded-all k m a i b d₀ d e n q = q ∙ rw (e, ← n, drop-length, append-nil)

module _ (b : List ℕ) where
  pub strays-next : (i : ℕ) → strays_of b (i + 1) ≡ strays_of b i + stray_of (bytes_at Binary32 b i)
  unfolding strays_of
  strays-next i = ap (strays_of b) (add-one i)

  -- where none is counted, none is
  pub none-counted : (a : ℕ) → strays_of b a ≡ 0 → (i : ℕ) → i < a → stray_of (bytes_at Binary32 b i) ≡ 0
  unfolding strays_of
  none-counted zero e i h = absurd (omega arith)
  none-counted (suc a) e i h =
      ⊎_elim
      (λ l. none-counted a (omega arith) i l)
      (λ l. let q : i ≡ a = omega arith in rw q (omega arith))
      (lt-or-ge i a)

  module _ (a : ℕ) where
    at : (i : ℕ) → i < a → get_or (samples_in Binary32 a b) i (pos 0) ≡ decoded Binary32 (bytes_at Binary32 b i)
    at i h = get_or-tab (λ j. decoded Binary32 (bytes_at Binary32 b j)) a i (pos 0) h

    -- sample i fits in 16 bits
    abbrev pub narrow : ℕ → Bool
    narrow i = fits (short a) (get_or (samples_in Binary32 a b) i (pos 0))

    narrow-is : (i : ℕ) → i < a → narrow i ≡ is_short (word_of (bytes_at Binary32 b i))
    unfolding fits holds
    narrow-is i h = rw (at i h)

    -- a turn of the search
    pub search-on : (i : ℕ) → i < a → stray_of (bytes_at Binary32 b i) ≡ 0 → fails_from narrow i (a - i) ≡ fails_from narrow (i + 1) (a - (i + 1))
    search-on i h e = fail-step narrow i a h ∙ rw (narrow-is i h, stray-short (bytes_at Binary32 b i) e)

    pub search-here : (i : ℕ) → i < a → (stray_of (bytes_at Binary32 b i) ≡ 0 → ⊥) → fails_from narrow i (a - i) ≡ i
    search-here i h n =
        fail-step narrow i a h
        ∙ on_test (is_short (word_of (bytes_at Binary32 b i)))
        (λ t. absurd (n (short-stray (bytes_at Binary32 b i) t)))
        (λ t. rw (narrow-is i h, t))

    pub none-strays : strays_of b a ≡ 0 → first_stray a b ≡ a
    unfolding first_stray
    none-strays e =
        all-misfit (short a) (samples_in Binary32 a b)
        (λ i h. narrow-is i h ∙ stray-short (bytes_at Binary32 b i) (none-counted a e i h))

    pub no_stray : NoStray a b → (i : ℕ) → i < a → stray_of (bytes_at Binary32 b i) ≡ 0
    unfolding first_stray
    no_stray e i h = short-stray (bytes_at Binary32 b i) (sym (narrow-is i h) ∙ misfit-all (short a) (samples_in Binary32 a b) e i h)
