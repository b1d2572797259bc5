-- Laws of a row and its bytes: each undoes the other.
--     length-row, bytes-row         the bytes of a row have the size of a row, and are bytes
--     row_back                      reading what was written gives the row, with its places past A and D zero
--     row_fine                      what was written has its number, and no padding bit
--     row-bytes-back                writing what was read gives the bytes, where the check finds nothing wrong
--     unread-bytes                  places past A and D are not written
-- Assumes nothing.
use mathlib.Core.Path.{◌≡◌, refl, sym, ap, ◌∙◌}
use mathlib.Core.Bool.{Bool, true, false}
use mathlib.Core.List.{List, [], ◌++◌, append_assoc}
use Prim.Native.Nat.{ℕ, ◌-◌, ◌*◌, ◌^◌, ◌<◌, ◌≤◌}
use native.Mathlib.Omega.{arith}
use borrow.Author.Tests.{eq-eqb}
use lib.IntN.{ℤ, pos}
use lib.ListN.{length, get_or, length-append}
use lib.Seq.{take_all}
use Rattle.ground.specs.Said.{says}
use Rattle.ground.specs.Tables.{part, padded, every}
use Rattle.ground.proofs.Every.{every_append}
use Rattle.ground.proofs.Parts.{part-front, part-back}
use Rattle.ground.proofs.Tables.{tab-ext, cat-ext}
use Rattle.words.specs.Words.{word_of, word_bytes, is_byte}
use Rattle.words.proofs.WordLaws.{length-word_bytes, bytes-word_bytes, word_back}
use Rattle.model.specs.declared.Layout.{Layout}
use Rattle.model.specs.declared.Row.{Row}
use Rattle.model.specs.Kinds.{width_of, half_of}
use Rattle.model.specs.Rows.{trimmed, misfit}
use Rattle.model.specs.Samples.{word_of_sample}
use Rattle.model.proofs.KindLaws.{half_le, width-pos}
use Rattle.model.proofs.SampleLaws.{fits_word}
use Rattle.binary_row.specs.Rows.{words_of, samples_end, row_size, samples_part, words_part, bytes_sample, word_status, check_row, row_of}
use Rattle.binary_bytes.specs.Rows.{packed, word_end, word_bytes_at, samples_bytes, words_bytes, head_bytes, binary_of}
use Rattle.ground.proofs.Filled.{get_or-padded, part_filled, parts_join}
use Rattle.model.proofs.FitLaws.{misfit-all}
use Rattle.binary_row.proofs.RowLaws.{check-told}
use Rattle.binary_row.proofs.SizeLaws.{sizes, samples-length, words-length}
use Rattle.words.proofs.WordLaws.{bytes-part, part-word}
use Rattle.binary_bytes.proofs.ChannelLaws.{length-samples, length-words, bytes-samples, bytes-words, sample-bytes-read, status-read, padding-read, samples-written, words-written}

length-head : (n t : ℕ) → length (head_bytes n t) ≡ 8
length-head n t = length-append (word_bytes 4 n) (word_bytes 4 t) ∙ omega (arith, length-word_bytes 4 n, length-word_bytes 4 t)

-- the parts of a row that was written
module _ (l : Layout) (n : ℕ) (r : Row) where
  abbrev head : List ℕ
  head = head_bytes n r.time

  abbrev samples : List ℕ
  samples = samples_bytes (width_of l.kind) (half_of l.kind) l.analogs r.samples

  abbrev statuses : List ℕ
  statuses = words_bytes l.statuses r.statuses

  long-samples : length samples ≡ l.analogs * width_of l.kind
  long-samples = length-samples (width_of l.kind) (half_of l.kind) l.analogs r.samples

  long-words : length statuses ≡ 2 * words_of l.statuses
  long-words = length-words l.statuses r.statuses

  -- number, timestamp and samples
  front : length (head ++ samples) ≡ samples_end l
  front = length-append head samples ∙ omega (arith, length-head n r.time, long-samples)

  pub length-row : length (binary_of l n r) ≡ row_size l
  unfolding binary_of
  length-row =
      length-append head (samples ++ statuses)
      ∙ omega (arith, sizes l, length-append samples statuses, length-head n r.time, long-samples, long-words)

  pub bytes-row : every is_byte (binary_of l n r) ≡ true
  unfolding binary_of
  bytes-row =
      every_append is_byte head (samples ++ statuses)
      (every_append is_byte (word_bytes 4 n) (word_bytes 4 r.time) (bytes-word_bytes 4 n) (bytes-word_bytes 4 r.time))
      (every_append is_byte samples statuses
      (bytes-samples (width_of l.kind) (half_of l.kind) l.analogs r.samples) (bytes-words l.statuses r.statuses))

  number-part : part 0 4 (binary_of l n r) ≡ word_bytes 4 n
  unfolding binary_of
  number-part =
      part-front 0 4 head (samples ++ statuses) (omega arith) (omega (arith, length-head n r.time))
      ∙ part-front 0 4 (word_bytes 4 n) (word_bytes 4 r.time) (omega arith) (omega (arith, length-word_bytes 4 n))
      ∙ part-back 0 4 [] (word_bytes 4 n) refl (omega (arith, length-word_bytes 4 n))

  time-part : part 4 8 (binary_of l n r) ≡ word_bytes 4 r.time
  unfolding binary_of
  time-part =
      part-front 4 8 head (samples ++ statuses) (omega arith) (omega (arith, length-head n r.time))
      ∙ part-back 4 8 (word_bytes 4 n) (word_bytes 4 r.time) (length-word_bytes 4 n) (omega (arith, length-word_bytes 4 r.time))

  samples-part : samples_part l (binary_of l n r) ≡ samples
  unfolding binary_of
  samples-part =
      ap (samples_part l) (sym (append_assoc head samples statuses))
      ∙ part-front 8 (samples_end l) (head ++ samples) statuses (omega arith) (omega (arith, front))
      ∙ part-back 8 (samples_end l) head samples (length-head n r.time) (omega (arith, long-samples))

  words-part : words_part l (binary_of l n r) ≡ statuses
  unfolding binary_of
  words-part =
      ap (words_part l) (sym (append_assoc head samples statuses))
      ∙ part-back (samples_end l) (row_size l) (head ++ samples) statuses front (omega (arith, sizes l, long-words))

  pub row_back : misfit l r.samples ≡ l.analogs → r.time < 2 ^ 32 → row_of l (binary_of l n r) ≡ trimmed l r
  unfolding row_of trimmed
  row_back f t =
      let k = l.kind in
      let read = sample-bytes-read (width_of k) (width-pos k) l.analogs r.samples in
      let fit = misfit-all l r.samples f in
      rw (
        time-part,
        samples-part,
        words-part,
        word_back 4 r.time t,
        tab-ext (bytes_sample (width_of k) (half_of k) samples) (λ i. get_or r.samples i (pos 0)) l.analogs (λ i h. read i h (fits_word l (get_or r.samples i (pos 0)) (fit i h))),
        tab-ext (word_status statuses) (λ i. get_or r.statuses i false) l.statuses (status-read l.statuses r.statuses),
      )

  pub row_fine : n < 2 ^ 32 → check_row l n (binary_of l n r) ≡ says tt
  unfolding check_row
  row_fine b = rw (number-part, eq-eqb (word_of (word_bytes 4 n)) n (word_back 4 n b), words-part, padding-read l.statuses r.statuses)

pub row-bytes-back : (l : Layout) (n : ℕ) (b : List ℕ) → length b ≡ row_size l → every is_byte b ≡ true → check_row l n b ≡ says tt → binary_of l n (row_of l b) ≡ b
unfolding binary_of row_of
row-bytes-back l n b long bytes e =
    let s = sizes l in
    let f = check-told l n b e in
    let k = l.kind in
    rw (
      ← f.0,
      part-word 0 4 4 b refl (omega arith) bytes,
      part-word 4 8 4 b refl (omega arith) bytes,
      samples-written (width_of k) (width-pos k) (half_le k) l.analogs 96 (samples_part l b) (samples-length l b long) (bytes-part 8 (samples_end l) b bytes),
      words-written l.statuses 256 (words_part l b) (words-length l b long) (bytes-part (samples_end l) (row_size l) b bytes) f.1,
      parts_join 0 4 8 b (omega arith) (omega arith),
      parts_join 8 (samples_end l) (row_size l) b (omega arith) (omega arith),
      parts_join 0 8 (row_size l) b (omega arith) (omega arith),
    )
    (take_all (row_size l - 0) b (omega arith))

pub unread-bytes : (l : Layout) (r : Row) (n : ℕ) → l.statuses ≤ length r.statuses → binary_of l n (trimmed l r) ≡ binary_of l n r
unfolding binary_of trimmed
unread-bytes l r n h =
    let a = l.analogs in
    let d = l.statuses in
    let g : ℕ → ℤ = λ i. get_or r.samples i (pos 0) in
    let s : ℕ → Bool = λ i. get_or r.statuses i false in
    let code : ℤ → List ℕ = λ z. word_bytes (width_of l.kind) (word_of_sample (half_of l.kind) z) in
    rw (
      cat-ext (λ i. code (get_or (padded g a 96 (pos 0)) i (pos 0))) (λ i. code (g i)) a (λ i q. ap code (get_or-padded g a 96 i (pos 0) (pos 0) q)),
      cat-ext (word_bytes_at d (padded s d 256 false)) (word_bytes_at d r.statuses) (words_of d)
          (λ j q. ap (λ (b : List Bool). word_bytes 2 (packed b)) (part_filled false r.statuses (j * 16) (word_end d j) d 256 (omega arith) (omega arith) h)),
    )
