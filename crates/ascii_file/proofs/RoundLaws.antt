-- Laws of a plain row and its line: what is written is found, is fine and reads back.
--     Fits                                      what a row must keep to be written: its timestamp and its samples
--     time-back, sample-back, status-back       what is written in a field reads back
--     line-fine, line-back                      the line of a row is fine, and says the row with its places past A and D zero
--     row-scanned, row-checked                  a row that a text begins with is found, and is fine
--     row-line, row-rest                        its line, and what follows it
-- Assumes nothing.
use mathlib.Core.Path.{◌≡◌, refl}
use mathlib.Core.Bool.{Bool, true, false}
use mathlib.Core.Logic.{inl, inr}
use mathlib.Core.List.{List, [], ◌∷◌, ◌++◌, append_assoc}
use Prim.Native.Nat.{ℕ, ◌+◌, ◌^◌, ◌<◌}
use native.Mathlib.Omega.{arith}
use borrow.Author.Tests.{le-leb}
use lib.IntN.{ℤ, pos}
use lib.ListN.{length, get_or, take, drop}
use lib.Seq.{take-append_seam, drop-append-add}
use Rattle.ground.specs.Said.{says}
use Rattle.ground.proofs.Cases.{on_test}
use Rattle.ground.proofs.Tables.{tab-ext}
use Rattle.std.proofs.Common.{Ok, Some}
use Rattle.text.specs.Fields.{after_fields}
use Rattle.text.proofs.LineLaws.{line-scanned}
use Rattle.numerals.specs.Decimals.{decimal}
use Rattle.numerals.proofs.PlainLaws.{length-decimal, count-decimal}
use Rattle.numerals.proofs.WholeLaws.{whole_plain}
use Rattle.model.specs.declared.Layout.{Layout}
use Rattle.model.specs.declared.Row.{Row}
use Rattle.model.specs.Layouts.{Sized}
use Rattle.model.specs.Samples.{is_missing, fits, marked}
use Rattle.model.specs.Rows.{latest_time, trimmed}
use Rattle.model.proofs.SampleLaws.{is-missing, fits-there, fits-small}
use Rattle.ascii_row.specs.Fields.{read_timestamp, is_missing_field, read_sample, is_status, time_in, sample_in, status_in}
use Rattle.ascii_row.specs.Rows.{check_line, field_sample, field_status, row_of}
use Rattle.ascii_row.proofs.FieldLaws.{told-missing, told-sample}
use Rattle.ascii_row.proofs.LineLaws.{line-is, sample-at, status-at}
use Rattle.ascii_plain.specs.Rows.{missing_chars, sample_chars, status_char, line_of, text_of}
use Rattle.ascii_plain.specs.Inner.{text_length}
use Rattle.ascii_plain.proofs.LengthLaws.{decimal-short, plain-short, missing-none, missing-mark, chars-missing, chars-there, text-line, line-most}
use Rattle.ascii_plain.proofs.LineLaws.{line-bytes-plain, fields-line, number-field, time-field, sample-field, status-field}
use Rattle.ascii_file.specs.Files.{scan_row, take_row, line_taken, first_line}

-- a row that can be written: its timestamp has 32 bits, and each of its A places is missing or a sample of the layout
pub record Fits (l : Layout) (r : Row) : Type 0 where
  pub time : r.time < 2 ^ 32
  pub samples : (i : ℕ) → i < l.analogs → fits l (get_or r.samples i (pos 0)) ≡ true

pub time-back : (v : ℕ) → v < 2 ^ 32 → read_timestamp (decimal v) ≡ Some v
unfolding read_timestamp
time-back v h = rw (count-decimal 1 13 v (length-decimal v) (omega (arith, decimal-short v h)), le-leb v latest_time (omega arith))

-- the characters of a missing sample are a field of one
missing-back : (l : Layout) → is_missing_field l (missing_chars l) ≡ true
missing-back l =
    told-missing l (missing_chars l)
    (on_test (marked l)
    (λ t. inr (t, rw (missing-mark l t) (whole_plain (pos 99999) (omega (arith, plain-short (pos 99999) (omega arith))))))
    (λ t. inl (t, missing-none l t)))

pub sample-back : (l : Layout) (z : ℤ) → fits l z ≡ true → read_sample l (sample_chars l z) ≡ Some z
sample-back l z f =
    told-sample l (sample_chars l z) z
    (on_test (is_missing z)
    (λ t. inl (is-missing z t, rw (chars-missing l z t) (missing-back l)))
    (λ t. inr (rw (chars-there l z t) (whole_plain z (omega (arith, plain-short z (fits-small l z f)))), fits-there l z f t)))

pub status-back : (b : Bool) → (is_status (status_char b ∷ []) ≡ true) × (status_in (status_char b ∷ []) ≡ b)
unfolding is_status status_in
status-back true = (refl, refl)
status-back false = (refl, refl)

module _ (l : Layout) (n : ℕ) (r : Row) (f : Fits l r) where
  pub line-fine : n < 2 ^ 32 → check_line l n (line_of l n r) ≡ says tt
  line-fine h =
      line-is l n (line_of l n r) (record {
        count = fields-line l n r;
        number = rw (number-field l n r) (count-decimal 1 10 n (length-decimal n) (decimal-short n h));
        time = rw (time-field l n r, time-back r.time f.time);
        samples = λ i k. rw (sample-field l n r i k, sample-back l (get_or r.samples i (pos 0)) (f.samples i k));
        statuses = λ i k. rw (status-field l n r i k) (status-back (get_or r.statuses i false)).0;
      })

  sample-read : (i : ℕ) → i < l.analogs → field_sample l (after_fields 2 (line_of l n r)) i ≡ get_or r.samples i (pos 0)
  unfolding sample_in
  sample-read i h = rw (sample-at l, sample-field l n r i h, sample-back l (get_or r.samples i (pos 0)) (f.samples i h))

  status-read : (i : ℕ) → i < l.statuses → field_status (after_fields (2 + l.analogs) (line_of l n r)) i ≡ get_or r.statuses i false
  status-read i h = rw (status-at l, status-field l n r i h) (status-back (get_or r.statuses i false)).1

  pub line-back : row_of l (line_of l n r) ≡ trimmed l r
  unfolding row_of trimmed time_in
  line-back =
      rw (
        time-field l n r,
        time-back r.time f.time,
        tab-ext (field_sample l (after_fields 2 (line_of l n r))) (λ i. get_or r.samples i (pos 0)) l.analogs sample-read,
        tab-ext (field_status (after_fields (2 + l.analogs) (line_of l n r))) (λ i. get_or r.statuses i false) l.statuses status-read,
      )

  -- the row with what follows it
  module _ (s : Sized l) (h : n < 2 ^ 32) (rest : List ℕ) where
    as_line : text_of l n r ++ rest ≡ line_of l n r ++ 13 ∷ 10 ∷ rest
    unfolding text_of
    as_line = append_assoc (line_of l n r) (13 ∷ 10 ∷ []) rest

    pub row-scanned : scan_row (text_of l n r ++ rest) ≡ Ok (record { len = (length (line_of l n r)); taken = (length (line_of l n r) + 2) })
    row-scanned = rw as_line (line-scanned 1880 (line_of l n r) rest (line-bytes-plain l n r) (line-most l n r s h f.time f.samples))

    take-line : take (length (line_of l n r)) (text_of l n r ++ rest) ≡ line_of l n r
    take-line = rw (as_line, take-append_seam)

    pub row-checked : take_row l n (text_of l n r ++ rest) ≡ says (text_length l n r)
    unfolding take_row
    row-checked = rw (row-scanned, take-line, line-fine h, text-line l n r)

    pub row-line : first_line (text_of l n r ++ rest) ≡ line_of l n r
    unfolding first_line
    row-line = rw (row-scanned, take-line)

    pub row-rest : drop (line_taken (scan_row (text_of l n r ++ rest))) (text_of l n r ++ rest) ≡ rest
    row-rest = rw (row-scanned, as_line, drop-append-add)
