-- Laws of plain lines: what is read of one, written again, is the line.
--     time-again, sample-again, status-again     a plain field, read and written again, is the same
--     line-again                                 so is a line whose number, timestamp and samples are plain
-- Assumes nothing.
use mathlib.Core.Path.{◌≡◌, sym, ◌∙◌}
use mathlib.Core.Bool.{true, false}
use mathlib.Core.Logic.{inl, inr, ⊎_elim}
use mathlib.Core.List.{List, [], ◌∷◌}
use Prim.Native.Nat.{ℕ, zero, suc, ◌+◌, ◌-◌, ◌<◌, ◌≤◌}
use native.Mathlib.Omega.{arith}
use borrow.Author.Tests.{eqb-true}
use lib.Dec.{eqb}
use lib.IntN.{ℤ, pos}
use Rattle.ground.proofs.Cases.{on_test, lt-or-ge}
use Rattle.text.specs.Fields.{field_at}
use Rattle.text.proofs.FieldLaws.{joined-ext, fields-joined}
use Rattle.std.proofs.Common.{Some}
use Rattle.numerals.specs.Wholes.{read_whole}
use Rattle.numerals.specs.Decimals.{decimal, is_plain_count, is_plain}
use Rattle.numerals.proofs.PlainLaws.{decimal-count}
use Rattle.numerals.proofs.WholeLaws.{plain-whole}
use Rattle.model.specs.declared.Layout.{Layout}
use Rattle.model.specs.Samples.{missing, marked}
use Rattle.model.proofs.SampleLaws.{missing-is, holds-there}
use Rattle.ascii_row.specs.Fields.{read_timestamp, read_sample, is_status, is_count, is_whole, time_in, sample_in, status_in}
use Rattle.ascii_row.specs.Rows.{row_of}
use Rattle.ascii_row.proofs.FieldLaws.{MissingTold, missing-told, SampleTold, whole-some, time-read, sample-read}
use Rattle.ascii_row.proofs.LineLaws.{FineLine, sample-there, status-there}
use Rattle.ascii_plain.specs.Rows.{missing_chars, sample_chars, status_char, line_of}
use Rattle.ascii_plain.specs.Inner.{is_plain_sample}
use Rattle.ascii_plain.proofs.LengthLaws.{missing-none, missing-mark, chars-missing, chars-there}
use Rattle.ascii_plain.proofs.LineLaws.{field_text, field-sample, field-status, as-joined}

pub time-again : (f : List ℕ) → is_plain_count f ≡ true → is_count (read_timestamp f) ≡ true → decimal (time_in f) ≡ f
time-again f p h = decimal-count 1 13 f (time_in f) p (time-read f h)

-- a plain field that is read as a number is a plain number
plain-number : (l : Layout) (f : List ℕ) (z : ℤ) → is_plain_sample l f ≡ true → read_whole f ≡ Some z → is_plain f ≡ true
unfolding is_plain_sample
plain-number l f z p e = on_test (marked l) (λ t. rw t at p) (λ t. rw (t, whole-some f z e) at p)

missing-again : (l : Layout) (f : List ℕ) → is_plain_sample l f ≡ true → MissingTold l f → missing_chars l ≡ f
missing-again l f p (inl (t, n)) = missing-none l t ∙ sym n
missing-again l f p (inr (t, e)) = missing-mark l t ∙ plain-whole f (pos 99999) (plain-number l f (pos 99999) p e) e

told-again : (l : Layout) (f : List ℕ) (z : ℤ) → is_plain_sample l f ≡ true → SampleTold l f z → sample_chars l z ≡ f
told-again l f z p (inl (e, m)) = rw e (chars-missing l missing missing-is ∙ missing-again l f p (missing-told l f m))
told-again l f z p (inr (e, h)) = chars-there l z (holds-there l z h) ∙ plain-whole f z (plain-number l f z p e) e

pub sample-again : (l : Layout) (f : List ℕ) → is_plain_sample l f ≡ true → is_whole (read_sample l f) ≡ true → sample_chars l (sample_in l f) ≡ f
sample-again l f p h = told-again l f (sample_in l f) p (sample-read l f h)

pub status-again : (f : List ℕ) → is_status f ≡ true → status_char (status_in f) ∷ [] ≡ f
unfolding is_status status_in
status-again [] h = cc
status-again (b ∷ []) h =
    on_test (eqb b 49)
    (λ e. rw (e, eqb-true b 49 e))
    (λ e. on_test (eqb b 48) (λ q. rw (e, eqb-true b 48 q)) (λ q. let x : false ≡ true = rw (q, e) at h in cc))
status-again (b ∷ c ∷ f) h = cc

-- a line that is fine, and its numbers plain
module _ (l : Layout) (n : ℕ) (line : List ℕ) (f : FineLine l n line) (number : is_plain_count (field_at 1 line) ≡ true)
    (time : is_plain_count (field_at 2 line) ≡ true) (samples : (i : ℕ) → i < l.analogs → is_plain_sample l (field_at (3 + i) line) ≡ true) where
  field-again : (j : ℕ) → j ≤ 1 + l.analogs + l.statuses → field_text l n (row_of l line) j ≡ field_at (j + 1) line
  unfolding row_of
  field-again zero h = decimal-count 1 10 (field_at 1 line) n number f.number
  field-again (suc zero) h = time-again (field_at 2 line) time f.time
  field-again (suc (suc i)) h =
      ⊎_elim
      (λ (k : i < l.analogs).
      let e : suc (suc i) + 1 ≡ 3 + i = omega arith in
      rw (e, field-sample l n (row_of l line) i k, sample-there l line i k)
      (sample-again l (field_at (3 + i) line) (samples i k) (f.samples i k)))
      (λ (k : l.analogs ≤ i).
      let d = i - l.analogs in
      let q : i ≡ l.analogs + d = omega arith in
      let e : suc (suc (l.analogs + d)) + 1 ≡ 3 + l.analogs + d = omega arith in
      rw (q, e, field-status l n (row_of l line) d, status-there l line d (omega arith))
      (status-again (field_at (3 + l.analogs + d) line) (f.statuses d (omega arith))))
      (lt-or-ge i l.analogs)

  pub line-again : line_of l n (row_of l line) ≡ line
  line-again =
      let m = 1 + l.analogs + l.statuses in
      as-joined l n (row_of l line)
      ∙ joined-ext (field_text l n (row_of l line)) (λ i. field_at (i + 1) line) m field-again
      ∙ fields-joined m line (f.count ∙ omega arith)
