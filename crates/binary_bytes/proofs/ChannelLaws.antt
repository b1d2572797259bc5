-- Laws of samples and statuses between a row and its bytes.
--     length-samples, length-words, bytes-samples, bytes-words     the bytes of samples and of status words
--     sample-bytes-read, status-read            what was written is read
--     padding-read                              what was written has no padding bit
--     samples-written, words-written            what was read is written as it was
-- Assumes nothing.
use mathlib.Core.Path.{◌≡◌, ap, ◌∙◌}
use mathlib.Core.Bool.{Bool, true, false}
use mathlib.Core.Logic.{⊎_elim}
use mathlib.Core.List.{List}
use Prim.Native.Nat.{ℕ, ◌+◌, ◌-◌, ◌*◌, ◌/◌, ◌%◌, ◌^◌, ◌<◌, ◌≤◌}
use native.Mathlib.Nat.{div-eq_of_lt, lt_of_lt_of_le}
use native.Mathlib.Omega.{arith}
use borrow.Author.Tests.{eq-eqb, ne_eqb, eqb-true, eqb-false}
use lib.Dec.{eqb}
use lib.IntN.{ℤ, pos}
use lib.ListN.{length, get_or, drop}
use lib.Pow.{pow_mono}
use lib.Seq.{get_or-take, get_or-drop}
use Rattle.ground.specs.Tables.{part, padded, every}
use Rattle.ground.proofs.Cases.{on_test, lt-or-ge}
use Rattle.ground.proofs.Every.{every-cat}
use Rattle.ground.proofs.Parts.{length_part, length-part-le}
use Rattle.ground.proofs.Tables.{block-end, length-cat, part-cat, cat-ext, cat-part}
use Rattle.words.specs.Words.{word_of, is_byte}
use Rattle.words.specs.Signed.{half}
use Rattle.words.proofs.WordLaws.{bytes-part, part-word, word_of-part-lt, length-word_bytes, bytes-word_bytes, word_back}
use Rattle.model.specs.Samples.{sample_of_word}
use Rattle.model.specs.Inner.{HasWord}
use Rattle.model.proofs.SampleLaws.{sample-back, sample-bytes-back}
use Rattle.binary_row.specs.Rows.{words_of, bytes_sample, word_at, word_status, padding_free}
use Rattle.binary_bytes.specs.Rows.{packed, word_end, sample_bytes, word_bytes_at, samples_bytes, words_bytes}
use Rattle.ground.proofs.Filled.{part-padded, get_or-padded}
use Rattle.binary_row.proofs.BitLaws.{word-statuses}
use Rattle.binary_bytes.proofs.PackLaws.{packed_lt, packed-bit, packed-bits, lt-of-div}

-- samples of any width
pub length-samples : (w h a : ℕ) (zs : List ℤ) → length (samples_bytes w h a zs) ≡ a * w
length-samples w h a zs = length-cat (sample_bytes w h zs) w (λ i. length-word_bytes w _) a

pub bytes-samples : (w h a : ℕ) (zs : List ℤ) → every is_byte (samples_bytes w h a zs) ≡ true
bytes-samples w h a zs = every-cat is_byte (sample_bytes w h zs) a (λ i l. bytes-word_bytes w _)

module _ (w : ℕ) (some : 1 ≤ w) where
  pub sample-bytes-read : (a : ℕ) (zs : List ℤ) (i : ℕ) → i < a → HasWord (half w) (get_or zs i (pos 0))
      → bytes_sample w (half w) (samples_bytes w (half w) a zs) i ≡ get_or zs i (pos 0)
  sample-bytes-read a zs i h f =
      ap (λ (l : List ℕ). sample_of_word (half w) (word_of l)) (part-cat (sample_bytes w (half w) zs) w (λ j. length-word_bytes w _) a i h)
      ∙ sample-back w some (get_or zs i (pos 0)) f

  pub samples-written : half w ≤ 2 ^ 31 → (a n : ℕ) (b : List ℕ) → length b ≡ a * w → every is_byte b ≡ true
      → samples_bytes w (half w) a (padded (bytes_sample w (half w) b) a n (pos 0)) ≡ b
  samples-written small a n b e h =
      cat-ext (sample_bytes w (half w) (padded (bytes_sample w (half w) b) a n (pos 0))) (λ i. part (i * w) (i * w + w) b) a
      (λ i l.
      let r : i * w + w ≤ length b = rw e (block-end i a w l) in
      let k : length (part (i * w) (i * w + w) b) ≡ w = length_part (i * w) (i * w + w) b r ∙ omega arith in
      rw (get_or-padded (bytes_sample w (half w) b) a n i (pos 0) (pos 0) l)
      (sample-bytes-back w some small (part (i * w) (i * w + w) b) k (bytes-part (i * w) (i * w + w) b h)))
      ∙ cat-part b w a e

-- statuses
module _ (d : ℕ) where
  pub length-words : (s : List Bool) → length (words_bytes d s) ≡ 2 * words_of d
  length-words s = length-cat (word_bytes_at d s) 2 (λ i. length-word_bytes 2 _) (words_of d) ∙ omega arith

  pub bytes-words : (s : List Bool) → every is_byte (words_bytes d s) ≡ true
  bytes-words s = every-cat is_byte (word_bytes_at d s) (words_of d) (λ i h. bytes-word_bytes 2 _)

  -- packed statuses of word j have no bit past them
  packed-small : (s : List Bool) (j k : ℕ) → word_end d j - j * 16 ≤ k → packed (part (j * 16) (word_end d j) s) < 2 ^ k
  packed-small s j k h =
      let l : length (part (j * 16) (word_end d j) s) ≤ k = omega (arith, length-part-le (j * 16) (word_end d j) s) in
      lt_of_lt_of_le (packed_lt (part (j * 16) (word_end d j) s)) (pow_mono l)

  word_read : (s : List Bool) (j : ℕ) → j < words_of d → word_at (words_bytes d s) j ≡ packed (part (j * 16) (word_end d j) s)
  word_read s j h =
      ap word_of (part-cat (word_bytes_at d s) 2 (λ i. length-word_bytes 2 _) (words_of d) j h)
      ∙ word_back 2 (packed (part (j * 16) (word_end d j) s)) (packed-small s j 16 (omega arith))

  pub status-read : (s : List Bool) (i : ℕ) → i < d → word_status (words_bytes d s) i ≡ get_or s i false
  status-read s i h =
      let q : i % 16 < word_end d (i / 16) - i / 16 * 16 = omega arith in
      let e : i / 16 * 16 + i % 16 ≡ i = omega arith in
      rw (
        word_read s (i / 16) (omega arith),
        packed-bit (part (i / 16 * 16) (word_end d (i / 16)) s) (i % 16),
        get_or-take (word_end d (i / 16) - i / 16 * 16) (drop (i / 16 * 16) s) (i % 16) false q,
        get_or-drop,
        e,
      )

  pub padding-read : (s : List Bool) → padding_free d (words_bytes d s) ≡ true
  padding-read s =
      on_test (eqb (d % 16) 0) (λ t. rw t)
      (λ t.
      let n = eqb-false (d % 16) 0 t in
      let l : d / 16 < words_of d = omega arith in
      rw (t, word_read s (d / 16) l)
      (eq-eqb (packed (part (d / 16 * 16) (word_end d (d / 16)) s) / 2 ^ (d % 16)) 0 (div-eq_of_lt (packed-small s (d / 16) (d % 16) (omega arith)))))

  -- a word of which no bit past its statuses is set is a number of so many bits
  word_small : (b : List ℕ) (j : ℕ) → every is_byte b ≡ true → padding_free d b ≡ true → j < words_of d
      → word_at b j < 2 ^ (word_end d j - j * 16)
  word_small b j h p l =
      ⊎_elim
      (λ k.
      let e : word_end d j - j * 16 ≡ d % 16 = omega arith in
      let q : j ≡ d / 16 = omega arith in
      let n : eqb (d % 16) 0 ≡ false = ne_eqb (d % 16) 0 (λ z. omega arith) in
      let z = eqb-true (word_at b (d / 16) / 2 ^ (d % 16)) 0 (rw n at p) in
      rw (e, q) (lt-of-div (word_at b (d / 16)) (d % 16) z))
      (λ k.
      let e : word_end d j - j * 16 ≡ 16 = omega arith in
      rw e (word_of-part-lt b (j * 2) (j * 2 + 2) 2 h (omega arith)))
      (lt-or-ge d (j * 16 + 16))

  pub words-written : (n : ℕ) (b : List ℕ) → length b ≡ 2 * words_of d → every is_byte b ≡ true → padding_free d b ≡ true
      → words_bytes d (padded (word_status b) d n false) ≡ b
  words-written n b e h p =
      cat-ext (word_bytes_at d (padded (word_status b) d n false)) (λ j. part (j * 2) (j * 2 + 2) b) (words_of d)
      (λ j l.
      rw (
        part-padded (word_status b) (j * 16) (word_end d j) d n false (omega arith) (omega arith),
        ← word-statuses b j (word_end d j - j * 16) (omega arith),
        packed-bits (word_end d j - j * 16) (word_at b j) (word_small b j h p l),
      )
      (part-word (j * 2) (j * 2 + 2) 2 b (omega arith) (omega arith) h))
      ∙ cat-part b 2 (words_of d) (omega arith)
