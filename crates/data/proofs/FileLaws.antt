-- Laws of data files of every kind: what is written is accepted and shown, and what is accepted can be written.
--     file-text, file-binary         a file that is written, by the kind
--     Writes, each_fits              a row that can be written: its time and its samples fit, all of them or each
--     fine_back, row_back            a file of written rows is fine, and has each row as it was written, with its places past A and D zero
--     row-writes, row-trimmed        a row of an accepted file can be written, and has its places past A and D zero
--     file-back                      an accepted file of a binary kind is the file of its rows
-- Assumes nothing.
use mathlib.Core.Path.{◌≡◌, ◌∙◌}
use mathlib.Core.Bool.{true}
use mathlib.Core.List.{List, [], append-nil}
use Prim.Native.Nat.{ℕ, ◌+◌, ◌*◌, ◌^◌, ◌<◌}
use native.Mathlib.Omega.{arith}
use Rattle.ground.specs.Said.{says}
use Rattle.ground.specs.Tables.{every}
use Rattle.ground.proofs.Tables.{cat-ext}
use Rattle.words.specs.Words.{is_byte}
use Rattle.words.proofs.WordLaws.{bytes-part, word_of-part-lt}
use Rattle.model.specs.declared.Kind.TheVariants.{Ascii}
use Rattle.model.specs.declared.Layout.{Layout}
use Rattle.model.specs.declared.Row.{Row}
use Rattle.model.specs.Layouts.{is_sized}
use Rattle.model.specs.Rows.{trimmed}
use Rattle.model.proofs.FitLaws.{misfit-all, all-misfit}
use Rattle.model.proofs.LayoutLaws.{sized}
use Rattle.binary_row.specs.Rows as binary
use Rattle.binary_bytes.specs.Rows.{binary_of}
use Rattle.binary_row.proofs.RowLaws as laws
use Rattle.binary_file.specs.Files.{row_bytes, check_binary, binary_row}
use Rattle.binary_file.specs.Inner.{binary_file}
use Rattle.binary_file.proofs.FileLaws.{binary-accepted, binary-reads-back, binary-back}
use Rattle.ascii_plain.specs.Rows.{text_of}
use Rattle.ascii_file.specs.Files.{check_text, text_row, mark, text_file}
use Rattle.ascii_file.proofs.RoundLaws.{Fits}
use Rattle.ascii_file.proofs.FileLaws as ascii_file
use Rattle.row_bytes.specs.Rows.{bytes_of}
use Rattle.row_bytes.proofs.KindLaws.{text-kind, binary-kind, by-kind}
use Rattle.row_bytes.proofs.RowLaws.{bytes-text, bytes-binary}
use Rattle.data.specs.Files.{file_fine, row_at, misfit_of, end_mark, file_of}

-- a row that can be written
pub record Writes (l : Layout) (r : Row) : Type 0 where
  pub time : r.time < 2 ^ 32
  pub all : misfit_of l r ≡ l.analogs

-- the same as a row of text is asked for it, sample by sample
pub each_fits : (l : Layout) (r : Row) → Writes l r → Fits l r
unfolding misfit_of
each_fits l r w = record { time = w.time; samples = misfit-all l r.samples w.all }

fits_all : (l : Layout) (r : Row) → Fits l r → Writes l r
unfolding misfit_of
fits_all l r f = record { time = f.time; all = all-misfit l r.samples f.samples }

module _ (l : Layout) (text : l.kind ≡ Ascii) where
  pub file-text : (r : ℕ → Row) → file_of l r ≡ text_file l r
  unfolding file_of end_mark
  file-text r =
      rw (
        text-kind l.kind mark [] text,
        cat-ext (λ i. bytes_of l (i + 1) (r i)) (λ i. text_of l (i + 1) (r i)) l.rows (λ i h. bytes-text l text (i + 1) (r i)),
      )

module _ (l : Layout) (other : l.kind ≡ Ascii → ⊥) where
  pub file-binary : (r : ℕ → Row) → file_of l r ≡ binary_file l r
  unfolding file_of end_mark
  file-binary r =
      rw (
        binary-kind l.kind mark [] other,
        append-nil,
        cat-ext (λ i. bytes_of l (i + 1) (r i)) (λ i. binary_of l (i + 1) (r i)) l.rows (λ i h. bytes-binary l other (i + 1) (r i)),
      )

-- a file of written rows
module _ (l : Layout) (ok : is_sized l ≡ true) (r : ℕ → Row) (writes : (i : ℕ) → i < l.rows → Writes l (r i)) where
  pub fine_back : file_fine l (file_of l r) ≡ says tt
  unfolding file_fine
  fine_back =
      by-kind l.kind
      (λ e. rw (text-kind l.kind (check_text l (file_of l r)) (check_binary l (file_of l r)) e, file-text l e r) (ascii_file.text-accepted l (sized l ok) r (λ i h. each_fits l (r i) (writes i h))))
      (λ e. rw (binary-kind l.kind (check_text l (file_of l r)) (check_binary l (file_of l r)) e, file-binary l e r) (binary-accepted l r (sized l ok)))

  pub row_back : (i : ℕ) → i < l.rows → row_at l (file_of l r) i ≡ trimmed l (r i)
  unfolding row_at misfit_of
  row_back i h =
      by-kind l.kind
      (λ e.
      rw (text-kind l.kind (text_row l i (file_of l r)) (binary_row l i (file_of l r)) e, file-text l e r)
      (ascii_file.text-reads-back l (sized l ok) r (λ j k. each_fits l (r j) (writes j k)) i h))
      (λ e.
      rw (binary-kind l.kind (text_row l i (file_of l r)) (binary_row l i (file_of l r)) e, file-binary l e r)
      (binary-reads-back l r i h (writes i h).all (writes i h).time))

-- any file
module _ (l : Layout) (s : List ℕ) (bytes : every is_byte s ≡ true) where
  pub row-writes : (i : ℕ) → Writes l (row_at l s i)
  unfolding row_at binary_row misfit_of binary.row_of
  row-writes i =
      by-kind l.kind
      (λ e. rw (text-kind l.kind (text_row l i s) (binary_row l i s) e) (fits_all l (text_row l i s) (ascii_file.row_fits l i s)))
      (λ e.
      let b = row_bytes l i s in
      let h = bytes-part (i * binary.row_size l) (i * binary.row_size l + binary.row_size l) s bytes in
      rw (binary-kind l.kind (text_row l i s) (binary_row l i s) e)
      (record { time = word_of-part-lt b 4 8 4 h (omega arith); all = laws.row_fits l b e h }))

  pub row-trimmed : (i : ℕ) → trimmed l (row_at l s i) ≡ row_at l s i
  unfolding row_at binary_row
  row-trimmed i =
      by-kind l.kind
      (λ e. rw (text-kind l.kind (text_row l i s) (binary_row l i s) e) (ascii_file.text-trimmed l i s))
      (λ e. rw (binary-kind l.kind (text_row l i s) (binary_row l i s) e) (laws.row-trimmed l (row_bytes l i s)))

  pub file-back : (l.kind ≡ Ascii → ⊥) → file_fine l s ≡ says tt → file_of l (row_at l s) ≡ s
  unfolding file_fine row_at
  file-back e fine =
      let f : check_binary l s ≡ says tt = rw (binary-kind l.kind (check_text l s) (check_binary l s) e) at fine in
      file-binary l e (row_at l s)
      ∙ cat-ext (λ i. binary_of l (i + 1) (row_at l s i)) (λ i. binary_of l (i + 1) (binary_row l i s)) l.rows
      (λ i h. rw (binary-kind l.kind (text_row l i s) (binary_row l i s) e))
      ∙ binary-back l s f bytes
