-- Rows and files of the binary kinds, exactly.
--     row-exactly         bytes are those of row n, which is r, exactly when there are as many as a row has, the check finds nothing wrong, and r is read
--     binary-exactly      a file of a binary kind is accepted, and its rows are r 0, r 1, .., exactly when it is the bytes of these rows
-- Assumes nothing.
use mathlib.Core.Path.{◌≡◌, sym, ap, subst, ◌∙◌}
use mathlib.Core.Logic.{◌↔◌, ⊎_elim}
use mathlib.Core.Bool.{true, false, ◌&&◌}
use mathlib.Core.List.{List}
use Prim.Native.Nat.{ℕ, ◌+◌, ◌*◌, ◌/◌, ◌%◌, ◌<◌, ◌≤◌}
use native.Mathlib.Omega.{arith}
use borrow.Author.Tests.{eq-eqb, lt-ltb, le-ltb}
use lib.Dec.{ltb}
use lib.IntN.{ℤ, pos}
use lib.ListN.{length, get_or}
use Rattle.ground.specs.Said.{says}
use Rattle.ground.specs.Tables.{part, every}
use Rattle.ground.proofs.Cases.{lt-or-ge}
use Rattle.ground.proofs.Every.{every-piece}
use Rattle.ground.proofs.Filled.{get_or-padded}
use Rattle.ground.proofs.Parts.{part-part}
use Rattle.ground.proofs.Tables.{block-end, tab-ext, cat-ext, cat-part, part-cat}
use Rattle.words.specs.Words.{word_of, is_byte}
use Rattle.words.proofs.WordLaws.{bytes-part, word_of-part-lt}
use Rattle.model.specs.declared.Layout.{Layout}
use Rattle.model.specs.declared.Row.{Row}
use Rattle.model.specs.Kinds.{width_of, half_of}
use Rattle.model.specs.Layouts.{Sized}
use Rattle.model.specs.Samples.{sample_of}
use Rattle.model.specs.Rows.{trimmed}
use Rattle.model.proofs.KindLaws.{width-pos, half_le}
use Rattle.binary_row.specs.Rows.{words_of, samples_end, row_size, row_number, samples_part, words_part, bytes_sample, word_at, word_status, padding_free, check_row, row_of}
use Rattle.binary_bytes.specs.Rows.{binary_of}
use Rattle.binary_row.proofs.SizeLaws.{sizes}
use Rattle.binary_row.proofs.RowLaws as laws
use Rattle.binary_bytes.proofs.RowLaws as written
use Rattle.binary_file.specs.Files.{row_bytes, check_binary, binary_row}
use Rattle.binary_file.specs.Inner.{binary_file}
use Rattle.binary_file.proofs.Laws.{row-length, whole}
use Rattle.binary_file.proofs.FileLaws.{binary-accepted, row-there}
use Rattle.paper.specs.Data.{status_of, low_first, SampleWord, is_on, status_word, BinaryRow, BinaryFile}
use Rattle.exact_data.proofs.NumberLaws.{low-first, word-exactly, padding-exactly}

-- the bytes of a row
module _ (l : Layout) (b : List ℕ) (bytes : every is_byte b ≡ true) (size : length b ≡ row_size l) where
  abbrev w : ℕ
  w = width_of l.kind

  -- the bytes of sample i
  abbrev sample_bytes : ℕ → List ℕ
  sample_bytes i = part (8 + i * w) (8 + i * w + w) b

  sample-part : (i : ℕ) → i < l.analogs → part (i * w) (i * w + w) (samples_part l b) ≡ sample_bytes i
  sample-part i h =
      let e : 8 + (i * w + w) ≡ 8 + i * w + w = omega arith in
      rw e at (part-part 8 (samples_end l) (i * w) (i * w + w) b (omega arith) (omega (arith, block-end i l.analogs w h)) (omega (arith, sizes l)))

  sample-is : (i : ℕ) (z : ℤ) → i < l.analogs → SampleWord w (low_first (sample_bytes i)) (sample_of z) ↔ bytes_sample w (half_of l.kind) (samples_part l b) i ≡ z
  sample-is i z h =
      rw (low-first (sample_bytes i), sample-part i h)
      (word-exactly w (word_of (sample_bytes i)) z (width-pos l.kind) (half_le l.kind) (word_of-part-lt b (8 + i * w) (8 + i * w + w) w bytes (omega arith)))

  word-is : (j : ℕ) → j < words_of l.statuses → status_word l j b ≡ word_at (words_part l b) j
  word-is j h =
      let e : samples_end l + j * 2 ≡ samples_end l + 2 * j = omega arith in
      let f : samples_end l + (j * 2 + 2) ≡ samples_end l + 2 * j + 2 = omega arith in
      low-first (part (samples_end l + 2 * j) (samples_end l + 2 * j + 2) b)
      ∙ ap word_of (sym (rw (e, f) at (part-part (samples_end l) (row_size l) (j * 2) (j * 2 + 2) b (omega arith) (omega (arith, sizes l)) (omega arith))))

  status-is : (i : ℕ) → i < 16 * words_of l.statuses → is_on (i % 16) (status_word l (i / 16) b) ≡ word_status (words_part l b) i
  status-is i h = rw (word-is (i / 16) (omega arith))

  words-bytes : every is_byte (words_part l b) ≡ true
  words-bytes = bytes-part (samples_end l) (row_size l) b bytes

  -- each bit of the status words is a status of r, and off past them
  abbrev Statuses : Row → Type 0
  Statuses r = (i : ℕ) → i < 16 * words_of l.statuses → is_on (i % 16) (status_word l (i / 16) b) ≡ (ltb i l.statuses && status_of r i)

  status-to : (r : Row) → Statuses r → (i : ℕ) → i < l.statuses → word_status (words_part l b) i ≡ status_of r i
  status-to r h i k =
      let q : i < 16 * words_of l.statuses = omega arith in
      sym (status-is i q) ∙ h i q ∙ rw (lt-ltb i l.statuses k)

  padding-to : (r : Row) → Statuses r → padding_free l.statuses (words_part l b) ≡ true
  padding-to r h =
      (padding-exactly l.statuses (words_part l b) words-bytes).1
      (λ i k q. sym (status-is i q) ∙ h i q ∙ rw (le-ltb i l.statuses k))

  statuses-from : (r : Row) → ((i : ℕ) → i < l.statuses → word_status (words_part l b) i ≡ status_of r i) → padding_free l.statuses (words_part l b) ≡ true → Statuses r
  statuses-from r h p i q =
      status-is i q
      ∙ ⊎_elim
      (λ (k : i < l.statuses). rw (lt-ltb i l.statuses k) (h i k))
      (λ (k : l.statuses ≤ i). rw (le-ltb i l.statuses k) ((padding-exactly l.statuses (words_part l b) words-bytes).0 p i k q))
      (lt-or-ge i l.statuses)

-- the bytes b are read as row n, which is r
pub record ReadsRow (l : Layout) (n : ℕ) (r : Row) (b : List ℕ) : Type 0 where
  pub size : length b ≡ row_size l
  pub fine : check_row l n b ≡ says tt
  pub row : row_of l b ≡ r

module _ (l : Layout) (n : ℕ) (r : Row) (b : List ℕ) (bytes : every is_byte b ≡ true) where
  row-to : BinaryRow l n r b → ReadsRow l n r b
  unfolding check_row row_of trimmed
  row-to t =
      let size : length b ≡ row_size l = t.size ∙ sym (sizes l) in
      let k = l.kind in
      record {
        size = size;
        fine = rw (eq-eqb (row_number b) n (sym (low-first (part 0 4 b)) ∙ t.number), padding-to l b bytes size r t.statuses);
        row =
            rw (
              sym (low-first (part 4 8 b)) ∙ t.time,
              tab-ext (bytes_sample (width_of k) (half_of k) (samples_part l b)) (λ i. get_or r.samples i (pos 0)) l.analogs
                  (λ i h. (sample-is l b bytes size i (get_or r.samples i (pos 0)) h).0 (t.samples i h)),
              tab-ext (word_status (words_part l b)) (status_of r) l.statuses (status-to l b bytes size r t.statuses),
            )
            t.beyond;
      }

  row-own : length b ≡ row_size l → check_row l n b ≡ says tt → BinaryRow l n (row_of l b) b
  unfolding row_of
  row-own size fine =
      let k = l.kind in
      let f = laws.check-told l n b fine in
      record {
        size = size ∙ sizes l;
        number = low-first (part 0 4 b) ∙ f.0;
        time = low-first (part 4 8 b);
        samples = λ i h. (sample-is l b bytes size i _ h).1 (sym (get_or-padded (bytes_sample (width_of k) (half_of k) (samples_part l b)) l.analogs 96 i (pos 0) (pos 0) h));
        statuses = statuses-from l b bytes size (row_of l b) (λ i h. sym (get_or-padded (word_status (words_part l b)) l.statuses 256 i false false h)) f.1;
        beyond = laws.row-trimmed l b;
      }

  row_from : ReadsRow l n r b → BinaryRow l n r b
  row_from t = subst (λ (q : Row). BinaryRow l n q b) t.row (row-own t.size t.fine)

  pub row-exactly : BinaryRow l n r b ↔ ReadsRow l n r b
  row-exactly = (row-to, row_from)

-- a file of a binary kind, of a sized layout
module _ (l : Layout) (r : ℕ → Row) (s : List ℕ) (sized : Sized l) (bytes : every is_byte s ≡ true) where
  file-to : check_binary l s ≡ says tt → ((i : ℕ) → i < l.rows → binary_row l i s ≡ r i) → BinaryFile l r s
  unfolding binary_row
  file-to e rows =
      let long = (whole l s e).0 in
      record {
        bytes = λ i. row_bytes l i s;
        whole = sym (cat-part s (row_size l) l.rows long);
        each = λ i h.
            let b = row_bytes l i s in
            (row-exactly l (i + 1) (r i) b (bytes-part (i * row_size l) (i * row_size l + row_size l) s bytes)).1
            (record {
              size = row-length l s i long h;
              fine = ap (check_row l (i + 1)) (sym (row-there l s e bytes i h)) ∙ written.row_fine l (i + 1) (binary_row l i s) (omega (arith, sized.rows));
              row = rows i h;
            });
      }

  -- the bytes of a row of the file are those that are written
  module _ (t : BinaryFile l r s) where
    piece_bytes : (i : ℕ) → i < l.rows → every is_byte (t.bytes i) ≡ true
    piece_bytes i h = every-piece is_byte t.bytes l.rows (rw t.whole at bytes) i h

    piece-reads : (i : ℕ) → i < l.rows → ReadsRow l (i + 1) (r i) (t.bytes i)
    piece-reads i h = (row-exactly l (i + 1) (r i) (t.bytes i) (piece_bytes i h)).0 (t.each i h)

    piece_is : (i : ℕ) → i < l.rows → t.bytes i ≡ binary_of l (i + 1) (r i)
    piece_is i h =
        let p = piece-reads i h in
        sym (written.row-bytes-back l (i + 1) (t.bytes i) p.size (piece_bytes i h) p.fine) ∙ ap (binary_of l (i + 1)) p.row

    file-is : s ≡ binary_file l r
    file-is = t.whole ∙ cat-ext t.bytes (λ i. binary_of l (i + 1) (r i)) l.rows piece_is

    piece-there : (i : ℕ) → i < l.rows → row_bytes l i s ≡ t.bytes i
    piece-there i h =
        ap (row_bytes l i) file-is
        ∙ part-cat (λ j. binary_of l (j + 1) (r j)) (row_size l) (λ j. written.length-row l (j + 1) (r j)) l.rows i h
        ∙ sym (piece_is i h)

    file-from : (check_binary l s ≡ says tt) × ((i : ℕ) → i < l.rows → binary_row l i s ≡ r i)
    unfolding binary_row
    file-from = (rw file-is (binary-accepted l r sized), λ i h. ap (row_of l) (piece-there i h) ∙ (piece-reads i h).row)

  pub binary-exactly : ((check_binary l s ≡ says tt) × ((i : ℕ) → i < l.rows → binary_row l i s ≡ r i)) ↔ BinaryFile l r s
  binary-exactly = (λ a. file-to a.0 a.1, file-from)
