-- WRONG PROGRAMS, each told by what it does. A call with our contract does not do it: from a promise that it does so on every input a contradiction follows, on a small file.
--     refuses-every-file, refuses-every-configuration, accepts-every-file, accepts-every-configuration
--     shows-zero-rows, shows-row-1-always
--     rows-from-the-length            the rows are counted in the file: what is right for some number of rows is accepted for any
--     a-row-more-accepted, a-row-less-accepted
--     writes_nothing, changes-nothing
--     copies-unchanged                the change of kind copies the file
--     row-1-and-the-rest-invented     what the change writes is told by row 1 alone
--     invented-length                 the length that is told does not depend on the file
--     writes-beside-a-no              a change writes rows until it meets one that does not fit
--     writes-past-what-it-reports, clears-the-tail
--     end-mark-with-a-row             the last row of a text is written with the end mark
--     seventeen-before-sixteen        no room is told before a sample that does not fit
--     later-row-first                 the last row that does not fit is told, and not the first
--     length-says-17                  the length question refuses with 17 where the change does
--     minus-lost                      the code -0h30 is read as +30 minutes
--     first-and-trigger-exchanged
--     shows-a-number-always           no sample is ever missing
--     repeats-the-sign                the lowest pattern of two bytes is widened as a number
--     missing-fits-no-kind            a file with a missing sample is not changed
--     spaces-taken-for-missing        a field of a space is taken as an empty one
--     none-refused                    zl_write_row takes no missing sample
--     mark-a-number, mark-missing-under-2013     99999 in a text is a number, or missing, whatever the edition
--     empty-field-taken               an empty field is a missing sample, whatever the edition
--     missing-left-empty              a missing sample is written as an empty field, whatever the edition
--     edition-lost                    the change goes by 2013, whatever the edition
--     every-kind-taken                a change is refused with 10 by the sizes alone
--     last-lines-shown-as-zeros, year-1999-told-as-2013     what a configuration of 1999 shows
--     zero-dates-refused              a date line of zeros is never accepted
--     moment-told-where-none          where there is no date a moment is shown: of zeros, the trigger's, or any other
--     time-told-where-unknown         where the pre-trigger time is unknown one is shown
--     zero-date-with-any-time         a date of zeros is taken beside any time
--     bad-time-told-at-the-time       and where it is refused, the time's field is told
--     five-beside-no-date             and where its time is of no form, 5 is told
--     half-zero-date-taken            a day of zero alone makes it no date
--     refuses-every-writing           no configuration is written
--     copies-the-configuration        a configuration is written as it stands, its old kind's word too
--     shows-the-old-kind              what is written shows the kind that the configuration had
--     asks-for-more-room              room that is just enough for a configuration is refused
-- Assumes nothing.
use mathlib.Core.Path.{◌≡◌, refl, sym, ap, ◌∙◌}
use mathlib.Core.Bool.{true, false}
use mathlib.Core.List.{List, [], ◌∷◌, ◌++◌}
use Prim.Native.Nat.{ℕ, suc, ◌+◌, ◌-◌, ◌<◌, ◌≤◌}
use native.Mathlib.Omega.{arith}
use borrow.Author.Tests.{eqb-false, le-leb}
use lib.Dec.{lit≤, eqb, leb}
use lib.IntN.{ℤ, pos, neg_ℤ}
use lib.ListN.{length, get_or, take, drop, replicate}
use Rattle.ground.specs.Quoted.{quoted}
use Rattle.ground.specs.Said.{Said, says, refuses, ◌>>◌, must, over}
use Rattle.ground.proofs.Cases.{clash}
use Rattle.ground.proofs.SaidLaws.{must-told, bind-told}
use Rattle.words.specs.Words.{word_of, word_bytes}
use Rattle.words.specs.Signed.{signed_of, unsigned_of, is_lowest}
use Rattle.text.specs.Lines.{scan_line}
use Rattle.text.specs.Fields.{field_count, after_fields, field_at}
use Rattle.numerals.specs.Counts.{length_in, is_digit, number_of, read_count}
use Rattle.numerals.specs.Wholes.{sign_length, has_minus, with_sign, signed_number, read_whole}
use Rattle.numerals.specs.Decimals.{decimal_in, decimal, plain}
use Rattle.clock.specs.declared.Moment.{Moment}
use Rattle.clock.specs.declared.Span.{Span}
use Rattle.std.proofs.Common.{Err, None, Ok, Option, Result, Some}
use Rattle.config_rules.specs.declared.LastLines.{LastLines}
use Rattle.patterns.specs.Patterns.{fits_character, fits_pattern, digits_at}
use Rattle.clock.specs.Dates.{date_of, is_zero_date, read_date}
use Rattle.clock.specs.Times.{time_form, read_time}
use Rattle.line_fields.specs.declared.Fault.{Fault}
use Rattle.line_fields.specs.Checks.{fault}
use Rattle.config_lines.specs.Lines.{date_line}
use Rattle.model.specs.declared.Kind.{Kind}
use Rattle.model.specs.declared.Kind.TheVariants.{Ascii, Binary, Binary32}
use Rattle.model.specs.declared.Edition.TheVariants.{Y2013, Y1999}
use Rattle.model.specs.Editions.{edition_of, has_kind}
use Rattle.model.specs.declared.Layout.{Layout}
use Rattle.model.specs.declared.Row.{Row}
use Rattle.model.specs.declared.Refusal.{Refusal}
use Rattle.model.specs.Kinds.{kind_of}
use Rattle.model.specs.Samples.{missing, is_missing, none, is_none, sample_of, holds, fits, sample_of_word, word_of_sample, marked, is_mark}
use Rattle.model.specs.Layouts.{is_sized, in_kind}
use Rattle.model.specs.Refusals.{refused, reason_number}
use Rattle.model.specs.Rows.{zero_row, sample_at, misfit}
use Rattle.config_rules.specs.Shown.{with_kind}
use Rattle.config_rules.specs.declared.Config.{Config}
use Rattle.config.specs.Config.{read_config}
use Rattle.binary_row.specs.Rows as binary
use Rattle.binary_bytes.specs.Rows.{binary_of, packed}
use Rattle.binary_row.specs.Rows.{row_size}
use Rattle.binary_file.specs.Files as binary_file
use Rattle.binary_file.specs.Files.{check_binary, binary_row}
use Rattle.ascii_row.specs.Fields.{read_timestamp, is_missing_field, read_sample, is_status, time_in, sample_in, status_in}
use Rattle.ascii_row.specs.Rows as ascii
use Rattle.ascii_row.specs.Rows.{field_fine, check_fields, check_number, check_line}
use Rattle.ascii_plain.specs.Rows.{sample_chars, line_of, text_of}
use Rattle.ascii_file.specs.Files as ascii_file
use Rattle.ascii_file.specs.Files.{take_row, is_ending, check_text, first_line, after_rows, text_row, mark}
use Rattle.row_bytes.specs.Rows.{bytes_of}
use Rattle.data.specs.Files.{file_fine, row_at, has_row, misfit_of, check_file, show_row, write_said, end_mark, file_of}
use Rattle.change.specs.Change.{change_said}
use Rattle.change_length.specs.Needed.{fit_row, fit_rows, bytes_needed, changed}
use Rattle.change.proofs.ChangeLaws.{change-needs}
use Rattle.change_length.proofs.LengthLaws.{needed-length}
use Rattle.row_places.specs.Rows.{place_sample, up_to, fits_sample, fits_place, unfit, row_of_places}
use Rattle.answers.specs.Answers.{layout_of}
use Rattle.calls_data.specs.Calls.{row_asked, write_call}
use Rattle.rewrite.specs.Rewrite.{rewritten, rewrite_said}
use Rattle.exact_rewrite.proofs.ExactLaws.{rewritten-exactly, written-accepted, never-long}
use Rattle.demands.proofs.Calls.{never-17}
use Rattle.demands.proofs.Recording.{recording_with, recording, recording1999, no_clock, recorded_at, last_with, recording_shows, no_clock_shows, shows1999, ends_of, recording-accepted}
use Rattle.demands.proofs.Recording.{recording-accepted, accepted-1999, recording-configuration, recording-code, no-clock-accepted, zero-date-refused, half-zero-refused}
use Rattle.demands.proofs.Vectors.{layout, row, of-t1, t1, t2, t3, vectors}
use Rattle.demands.proofs.Missing.{channel_of}

-- T1's rows
abbrev row-1 : Row
row-1 = row 0 (neg_ℤ (pos 3) ∷ []) (false ∷ [])

abbrev row-2 : Row
row-2 = row 1000 (pos 300 ∷ []) (true ∷ [])

-- T1 with another sample in row 2, and what it is in binary
abbrev other : List ℕ
other = quoted "1,0,-3,0\r\n2,1000,301,1\r\n"

abbrev other-changed : List ℕ
other-changed = take 20 t2 ++ 0x2D ∷ drop 21 t2

-- two rows of zeros in binary, and as text
abbrev zeros : List ℕ
zeros = 0x01 ∷ replicate 11 0 ++ 0x02 ∷ replicate 11 0

abbrev zeros-text : List ℕ
zeros-text = quoted "1,0,0,0\r\n2,0,0,0\r\n\u{1a}\r\n"

-- two rows of one sample, of which the second, or both, do not fit binary
abbrev second-unfit : List ℕ
second-unfit = quoted "1,0,1\r\n2,0,32768\r\n"

abbrev both-unfit : List ℕ
both-unfit = quoted "1,0,32768\r\n2,0,32768\r\n"

-- one row of one sample, which is missing, in every kind
abbrev no-sample : List ℕ
no-sample = 0x01 ∷ replicate 7 0 ++ 0x00 ∷ 0x80 ∷ []

abbrev no-sample-wide : List ℕ
no-sample-wide = 0x01 ∷ replicate 7 0 ++ 0x00 ∷ 0x00 ∷ 0x00 ∷ 0x80 ∷ []

abbrev no-sample-text : List ℕ
no-sample-text = quoted "1,0,\r\n\u{1a}\r\n"

-- the same layouts of 1999, and that row in its text
abbrev of-1999 : ℕ → ℕ → ℕ → Kind → Layout
of-1999 a d rows kind = record { analogs = a; statuses = d; rows = rows; kind = kind; edition = Y1999 }

abbrev marked-text : List ℕ
marked-text = quoted "1,0,99999\r\n\u{1a}\r\n"

computed :
    -- T1 has two rows, in every kind
    ((check_file (layout 1 1 1 Ascii) t1 ≡ Err (refused 11 2 0))
    × (check_file (layout 1 1 3 Ascii) t1 ≡ Err (refused 14 3 0))
    × (check_file (layout 1 1 1 Binary) t2 ≡ Err (refused 11 0 0))
    × (check_file (layout 1 1 1 Binary32) t3 ≡ Err (refused 11 0 0))
    × (has_row (of-t1 Ascii) 2 ≡ true))
    -- one row is written
    × ((write_said (of-t1 Binary) 1 row-1 12 ≡ says (take 12 t2))
    × (write_said (of-t1 Binary) 1 row-1 13 ≡ says (take 12 t2))
    × (write_said (of-t1 Ascii) 2 row-2 14 ≡ says (quoted "2,1000,300,1\r\n")))
    -- files are changed
    × ((show_row (of-t1 Ascii) t1 1 ≡ show_row (of-t1 Ascii) other 1)
    × (change_said (of-t1 Ascii) other Binary 24 ≡ says other-changed)
    × (change_said (of-t1 Binary) t2 Ascii 27 ≡ says t1)
    × (change_said (of-t1 Binary) zeros Ascii 27 ≡ says zeros-text))
    -- samples do not fit
    × ((check_file (layout 1 0 2 Ascii) both-unfit ≡ Ok tt)
    × (check_file (layout 1 0 2 Ascii) second-unfit ≡ Ok tt)
    × (fit_row (layout 1 0 2 Binary) 1 (row_at (layout 1 0 2 Ascii) second-unfit 0) ≡ says tt)
    × (change_said (layout 1 0 2 Ascii) second-unfit Binary 20 ≡ refuses (refused 16 2 3))
    × (bytes_of (layout 1 0 2 Binary) 1 (row_at (layout 1 0 2 Ascii) second-unfit 0) ≡ 0x01 ∷ replicate 7 0 ++ 0x01 ∷ 0x00 ∷ [])
    × (change_said (layout 1 0 2 Ascii) both-unfit Binary 0 ≡ refuses (refused 16 1 3))
    × (length (changed (layout 1 0 2 Ascii) both-unfit Binary) ≡ 20)
    × (fit_row (layout 1 0 2 Binary) 2 (row_at (layout 1 0 2 Ascii) both-unfit 1) ≡ refuses (refused 16 2 3)))
    -- a sample is missing
    × ((check_file (layout 1 0 1 Binary) no-sample ≡ Ok tt)
    × (channel_of 1 (show_row (layout 1 0 1 Binary) no-sample 1) ≡ Ok None)
    × (change_said (layout 1 0 1 Binary) no-sample Binary32 12 ≡ says no-sample-wide)
    × (change_said (layout 1 0 1 Binary32) no-sample-wide Ascii 9 ≡ says no-sample-text)
    × (check_file (layout 1 0 1 Ascii) (quoted "1,0,\r\n") ≡ Ok tt)
    × (check_file (layout 1 0 1 Ascii) (quoted "1,0, \r\n") ≡ Err (refused 14 1 3))
    × (check_file (layout 1 0 1 Ascii) (quoted "1,0,-2147483648\r\n") ≡ Err (refused 14 1 3))
    × (change_said (layout 1 0 1 Ascii) (quoted "1,0,-32768\r\n") Binary 10 ≡ refuses (refused 16 1 3))
    × (write_call 1 0 1 1 2013 1 (pos 0 ∷ none ∷ []) 10 ≡ says no-sample)
    × (write_call 1 0 1 2 2013 1 (pos 0 ∷ missing ∷ []) 12 ≡ refuses (refused 16 1 3)))
    -- the two editions
    × ((check_file (of-1999 1 0 1 Ascii) marked-text ≡ Ok tt)
    × (channel_of 1 (show_row (of-1999 1 0 1 Ascii) marked-text 1) ≡ Ok None)
    × (check_file (layout 1 0 1 Ascii) marked-text ≡ Ok tt)
    × (channel_of 1 (show_row (layout 1 0 1 Ascii) marked-text 1) ≡ Ok (Some (pos 99999)))
    × (check_file (of-1999 1 0 1 Ascii) (quoted "1,0,\r\n") ≡ Err (refused 14 1 3))
    × (change_said (of-1999 1 0 1 Binary) no-sample Ascii 14 ≡ says marked-text)
    × (change_said (layout 1 0 1 Binary) no-sample Ascii 14 ≡ says no-sample-text)
    × (change_said (of-1999 1 0 1 Ascii) marked-text Binary32 14 ≡ refuses (refused 10 0 0))
    × (write_call 1 0 1 0 1999 1 (pos 0 ∷ none ∷ []) 11 ≡ says (take 11 marked-text))
    × (write_call 1 0 1 0 1999 1 (pos 0 ∷ pos 99999 ∷ []) 11 ≡ refuses (refused 16 1 3))
    × (change_said (of-1999 1 0 1 Ascii) marked-text Ascii 14 ≡ says marked-text))
unfolding check_file show_row write_said is_sized has_kind has_row file_fine row_at check_text ascii_file.check_lines take_row is_ending scan_line first_line after_rows text_row field_count after_fields field_at
    check_line check_number check_fields field_fine ascii.row_of read_timestamp is_missing_field read_sample is_status time_in sample_in status_in length_in is_digit number_of read_count sign_length has_minus with_sign signed_number read_whole is_lowest is_missing holds fits marked is_mark
    change_said fit_rows misfit_of misfit row_size changed file_of end_mark bytes_of binary_of packed word_bytes word_of signed_of unsigned_of sample_of_word word_of_sample
    check_binary binary_file.check_rows binary_row binary.row_of binary.check_row decimal_in decimal plain sample_chars line_of text_of
    sample_of sample_at kind_of edition_of layout_of write_call row_asked unfit fits_place fits_sample is_none up_to place_sample row_of_places
computed = (
  (refl, refl, refl, refl, refl),
  (refl, refl, refl),
  (refl, refl, refl, refl),
  (refl, refl, refl, refl, refl, refl, refl, refl),
  (refl, refl, refl, refl, refl, refl, refl, refl, refl, refl),
  (refl, refl, refl, refl, refl, refl, refl, refl, refl, refl, refl),
)

-- no answer is yes and no
yes-no : {A : Type 0} (x : Result A Refusal) (r : Refusal) {a : A} → x ≡ Ok a → x ≡ Err r → ⊥
yes-no x r {a} e f = let q : Ok a ≡ Err r = sym e ∙ f in clash (cc)

-- a configuration shows one thing
one-shown : (x : Result Config Refusal) (b c : Config) → x ≡ Ok b → x ≡ Ok c → b ≡ c
one-shown x b c e f = let q : Ok b ≡ Ok c = sym e ∙ f in cc

-- lists that differ at a place
differ : (xs ys : List ℕ) (i : ℕ) → eqb (get_or xs i 0) (get_or ys i 0) ≡ false → xs ≡ ys → ⊥
differ xs ys i d e = eqb-false (get_or xs i 0) (get_or ys i 0) d (ap (λ zs. get_or zs i 0) e)

-- the refusal that was given; zeros for none
abbrev given : Said Refusal (List ℕ) → Refusal
given (says new) = refused 0 0 0
given (refuses r) = r

-- a call gives one refusal
one-refusal : (x : Said Refusal (List ℕ)) (p q : Refusal) → x ≡ refuses p → x ≡ refuses q → (reason_number p.reason ≡ reason_number q.reason) × (p.at ≡ q.at)
one-refusal x p q e f = (sym (ap (λ y. reason_number (given y).reason) e) ∙ ap (λ y. reason_number (given y).reason) f, sym (ap (λ y. (given y).at) e) ∙ ap (λ y. (given y).at) f)

-- what a buffer holds where this was said
abbrev filled_by : List ℕ → List ℕ → List ℕ
filled_by new out = new ++ drop (length new) out

-- a buffer of so many zeros
abbrev blank : ℕ → List ℕ
blank n = replicate n 0

pub refuses-every-file : ((l : Layout) (s : List ℕ) → (r : Refusal) × (check_file l s ≡ Err r)) → ⊥
refuses-every-file f = let e = f (of-t1 Ascii) t1 in yes-no (check_file (of-t1 Ascii) t1) e.0 vectors.0.1 e.1

pub refuses-every-configuration : ((s : List ℕ) → (r : Refusal) × (read_config s ≡ Err r)) → ⊥
refuses-every-configuration f =
    let e = f recording in
    yes-no (read_config recording) e.0 recording-accepted e.1

pub accepts-every-file : ((l : Layout) (s : List ℕ) → is_sized l ≡ true → check_file l s ≡ Ok tt) → ⊥
unfolding is_sized has_kind
accepts-every-file f = yes-no (check_file (layout 1 1 1 Ascii) t1) (refused 11 2 0) (f (layout 1 1 1 Ascii) t1 refl) computed.0.0

pub accepts-every-configuration : ((s : List ℕ) → length s ≤ 65536 → (c : Config) × (read_config s ≡ Ok c)) → ⊥
accepts-every-configuration f = let e = f [] (lit≤ tt) in yes-no (read_config []) (refused 2 1 0) e.1 vectors.10

pub shows-zero-rows : ((l : Layout) (s : List ℕ) (n : ℕ) (r : Row) → show_row l s n ≡ Ok r → r ≡ zero_row) → ⊥
unfolding zero_row
shows-zero-rows f =
    eqb-false 1000 0 refl (ap (λ (r : Row). r.time) (f (of-t1 Ascii) t1 2 _ vectors.0.3))

pub shows-row-1-always : ((l : Layout) (s : List ℕ) (n : ℕ) → check_file l s ≡ Ok tt → has_row l n ≡ true → show_row l s n ≡ show_row l s 1) → ⊥
shows-row-1-always f =
    let e = sym vectors.0.3 ∙ f (of-t1 Ascii) t1 2 vectors.0.1 computed.0.4 ∙ vectors.0.2 in
    eqb-false 1000 0 refl (ap time_of e)
  where
    time_of : Result Row Refusal → ℕ
    time_of (Ok r) = r.time
    time_of (Err r) = 0

pub rows-from-the-length : (k : Kind)
    → ((a d rows m : ℕ) (s : List ℕ) → is_sized (layout a d rows k) ≡ true → check_file (layout a d m k) s ≡ Ok tt → check_file (layout a d rows k) s ≡ Ok tt)
    → ⊥
unfolding is_sized has_kind
rows-from-the-length Ascii f = yes-no (check_file (layout 1 1 1 Ascii) t1) (refused 11 2 0) (f 1 1 1 2 t1 refl vectors.0.1) computed.0.0
rows-from-the-length Binary f = yes-no (check_file (layout 1 1 1 Binary) t2) (refused 11 0 0) (f 1 1 1 2 t2 refl vectors.1.3) computed.0.2
rows-from-the-length Binary32 f = yes-no (check_file (layout 1 1 1 Binary32) t3) (refused 11 0 0) (f 1 1 1 2 t3 refl vectors.2.3) computed.0.3

pub a-row-more-accepted : ((a d rows : ℕ) (k : Kind) (s : List ℕ) → is_sized (layout a d rows k) ≡ true → check_file (layout a d (rows + 1) k) s ≡ Ok tt
    → check_file (layout a d rows k) s ≡ Ok tt)
    → ⊥
unfolding is_sized has_kind
a-row-more-accepted f = yes-no (check_file (layout 1 1 1 Ascii) t1) (refused 11 2 0) (f 1 1 1 Ascii t1 refl vectors.0.1) computed.0.0

pub a-row-less-accepted : ((a d rows : ℕ) (k : Kind) (s : List ℕ) → is_sized (layout a d (rows + 1) k) ≡ true → check_file (layout a d rows k) s ≡ Ok tt
    → check_file (layout a d (rows + 1) k) s ≡ Ok tt)
    → ⊥
unfolding is_sized has_kind
a-row-less-accepted f = yes-no (check_file (layout 1 1 3 Ascii) t1) (refused 14 3 0) (f 1 1 2 Ascii t1 refl vectors.0.1) computed.0.1

pub writes_nothing : ((l : Layout) (n : ℕ) (r : Row) (out : List ℕ) → over (write_said l n r (length out)) out ≡ out) → ⊥
writes_nothing f =
    let out = blank 12 in
    let e : filled_by (take 12 t2) out ≡ out = rw computed.1.0 at (f (of-t1 Binary) 1 row-1 out) in
    differ (filled_by (take 12 t2) out) out 0 refl e

pub changes-nothing : ((l : Layout) (s : List ℕ) (k : Kind) (out : List ℕ) → over (change_said l s k (length out)) out ≡ out) → ⊥
changes-nothing f =
    let out = blank 24 in
    let e : t2 ≡ out = sym (vectors.1.2 out refl) ∙ f (of-t1 Ascii) t1 Binary out in
    differ t2 out 0 refl e

-- more room does no harm
more_room : (l : Layout) (s : List ℕ) (k : Kind) (m room : ℕ) (new : List ℕ) → change_said l s k m ≡ says new → length new ≤ room → change_said l s k room ≡ says new
more_room l s k m room new e h =
    let b = bind-told (bytes_needed l s k) (λ j. must (leb j m) (refused 17 0 0) >> says (changed l s k)) new (sym (change-needs l s k m) ∙ e) in
    let c = must-told (leb b.0 m) (refused 17 0 0) (says (changed l s k)) new b.2 in
    let q : changed l s k ≡ new = cc c.1 in
    let w : b.0 ≤ room = rw (needed-length l s k b.0 b.1, q) h in
    change-needs l s k room ∙ rw (b.1, le-leb b.0 room w, q)

pub copies-unchanged : ((l : Layout) (s : List ℕ) (k : Kind) (out new : List ℕ) → change_said l s k (length out) ≡ says new → length s ≤ length out
    → over (change_said l s k (length out)) out ≡ s ++ drop (length s) out)
    → ⊥
copies-unchanged f =
    let out = blank 27 in
    let c = more_room (of-t1 Ascii) t1 Binary 24 27 t2 vectors.1.1 (lit≤ tt) in
    let e : filled_by t2 out ≡ t1 ++ drop 27 out = rw c at (f (of-t1 Ascii) t1 Binary out t2 c (lit≤ tt)) in
    differ (filled_by t2 out) (t1 ++ drop 27 out) 0 refl e

pub row-1-and-the-rest-invented : ((l : Layout) (s t : List ℕ) (k : Kind) (room : ℕ) (new other : List ℕ) → show_row l s 1 ≡ show_row l t 1
    → change_said l s k room ≡ says new → change_said l t k room ≡ says other → new ≡ other)
    → ⊥
row-1-and-the-rest-invented f =
    differ t2 other-changed 20 refl (f (of-t1 Ascii) t1 other Binary 24 t2 other-changed computed.2.0 vectors.1.1 computed.2.1)

pub invented-length : (told : Layout → Kind → ℕ → ℕ) → ((l : Layout) (s : List ℕ) (k : Kind) (room : ℕ) (new : List ℕ) → change_said l s k room ≡ says new → told l k room ≡ length new) → ⊥
invented-length told f =
    eqb-false 27 21 refl (sym (f (of-t1 Binary) t2 Ascii 27 t1 computed.2.2) ∙ f (of-t1 Binary) zeros Ascii 27 zeros-text computed.2.3)

-- a row that fits is written before the next is looked at
pub writes-beside-a-no : ((l : Layout) (s : List ℕ) (k : Kind) (out : List ℕ) → check_file l s ≡ Ok tt → fit_row (in_kind k l) 1 (row_at l s 0) ≡ says tt
    → length (bytes_of (in_kind k l) 1 (row_at l s 0)) ≤ length out
    → take (length (bytes_of (in_kind k l) 1 (row_at l s 0))) (over (change_said l s k (length out)) out) ≡ bytes_of (in_kind k l) 1 (row_at l s 0))
    → ⊥
writes-beside-a-no f =
    let l = layout 1 0 2 Ascii in
    let out = blank 20 in
    let b : List ℕ = 0x01 ∷ replicate 7 0 ++ 0x01 ∷ 0x00 ∷ [] in
    let e : take 10 out ≡ b = rw (computed.3.4, computed.3.3) at (f l second-unfit Binary out computed.3.1 computed.3.2) (lit≤ tt) in
    differ (take 10 out) b 0 refl e

pub writes-past-what-it-reports : (z : ℕ) → ((l : Layout) (n : ℕ) (r : Row) (out new : List ℕ) → write_said l n r (length out) ≡ says new → length new < length out
    → get_or (over (write_said l n r (length out)) out) (length new) 0 ≡ z)
    → ⊥
writes-past-what-it-reports z f =
    let out : List ℕ = replicate 13 (suc z) in
    let e : suc z ≡ z = rw computed.1.1 at (f (of-t1 Binary) 1 row-1 out (take 12 t2) computed.1.1 (lit≤ tt)) in
    absurd (omega arith)

pub clears-the-tail : ((l : Layout) (n : ℕ) (r : Row) (out new : List ℕ) → write_said l n r (length out) ≡ says new
    → over (write_said l n r (length out)) out ≡ new ++ replicate (length out - length new) 0)
    → ⊥
clears-the-tail f =
    let out : List ℕ = replicate 13 1 in
    let new = take 12 t2 in
    let e : filled_by new out ≡ new ++ 0 ∷ [] = rw computed.1.1 at (f (of-t1 Binary) 1 row-1 out new computed.1.1) in
    differ (filled_by new out) (new ++ 0 ∷ []) 12 refl e

pub end-mark-with-a-row : ((l : Layout) (n : ℕ) (r : Row) (room : ℕ) (new : List ℕ) → l.kind ≡ Ascii → n ≡ l.rows → write_said l n r room ≡ says new
    → drop (length new - 3) new ≡ mark)
    → ⊥
end-mark-with-a-row f =
    let new = quoted "2,1000,300,1\r\n" in
    let e : drop 11 new ≡ mark = f (of-t1 Ascii) 2 row-2 14 new refl refl computed.1.2 in
    differ (drop 11 new) mark 0 refl e

pub seventeen-before-sixteen : ((l : Layout) (s : List ℕ) (k : Kind) (room : ℕ) → check_file l s ≡ Ok tt → room < length (changed l s k)
    → change_said l s k room ≡ refuses (refused 17 0 0))
    → ⊥
seventeen-before-sixteen f =
    let l = layout 1 0 2 Ascii in
    let h : 0 < length (changed l both-unfit Binary) = rw computed.3.6 (lit≤ tt) in
    eqb-false 16 17 refl (one-refusal (change_said l both-unfit Binary 0) (refused 16 1 3) (refused 17 0 0) computed.3.5 (f l both-unfit Binary 0 computed.3.0 h)).0

pub later-row-first : ((l : Layout) (s : List ℕ) (k : Kind) (room : ℕ) (r : Refusal) → check_file l s ≡ Ok tt
    → fit_row (in_kind k l) l.rows (row_at l s (l.rows - 1)) ≡ refuses r → change_said l s k room ≡ refuses r)
    → ⊥
later-row-first f =
    let l = layout 1 0 2 Ascii in
    eqb-false 1 2 refl (one-refusal (change_said l both-unfit Binary 0) (refused 16 1 3) (refused 16 2 3) computed.3.5 (f l both-unfit Binary 0 (refused 16 2 3) computed.3.0 computed.3.7)).1

pub length-says-17 : ((l : Layout) (s : List ℕ) (k : Kind) (room : ℕ) (r : Refusal) → change_said l s k room ≡ refuses r → bytes_needed l s k ≡ refuses r) → ⊥
length-says-17 f =
    let e : change_said (of-t1 Ascii) t1 Binary 0 ≡ refuses (refused 17 0 0) = change-needs (of-t1 Ascii) t1 Binary 0 ∙ rw vectors.1.0 in
    never-17 (of-t1 Ascii) t1 Binary (refused 17 0 0) (f (of-t1 Ascii) t1 Binary 0 (refused 17 0 0) e) refl

pub shows-a-number-always : ((l : Layout) (s : List ℕ) (m n : ℕ) → check_file l s ≡ Ok tt → has_row l m ≡ true → 1 ≤ n → n ≤ l.analogs
    → (z : ℤ) × (channel_of n (show_row l s m) ≡ Ok (Some z)))
    → ⊥
unfolding has_row
shows-a-number-always f =
    let e = f (layout 1 0 1 Binary) no-sample 1 1 computed.4.0 refl (lit≤ tt) (lit≤ tt) in
    let q : Ok None ≡ Ok (Some e.0) = sym computed.4.1 ∙ e.1 in
    clash (cc)

pub repeats-the-sign : ((l : Layout) (s u : List ℕ) (room : ℕ) → l.kind ≡ Binary → change_said l s Binary32 room ≡ says u → get_or s 9 0 ≡ 0x80 → get_or u 11 0 ≡ 0xFF) → ⊥
repeats-the-sign f = eqb-false 0x80 0xFF refl (f (layout 1 0 1 Binary) no-sample no-sample-wide 12 refl computed.4.2 refl)

pub missing-fits-no-kind : ((l : Layout) (s : List ℕ) (k : Kind) (room : ℕ) → check_file l s ≡ Ok tt → channel_of 1 (show_row l s 1) ≡ Ok None
    → (r : Refusal) × (change_said l s k room ≡ refuses r))
    → ⊥
missing-fits-no-kind f =
    let e = f (layout 1 0 1 Binary) no-sample Binary32 12 computed.4.0 computed.4.1 in
    let q : says no-sample-wide ≡ refuses e.0 = sym computed.4.2 ∙ e.1 in
    clash (cc)

pub spaces-taken-for-missing : ((l : Layout) (s : List ℕ) → check_file l (quoted "1,0," ++ s) ≡ Ok tt → check_file l (quoted "1,0, " ++ s) ≡ Ok tt) → ⊥
spaces-taken-for-missing f =
    yes-no (check_file (layout 1 0 1 Ascii) (quoted "1,0, \r\n")) (refused 14 1 3) (f (layout 1 0 1 Ascii) (quoted "\r\n") computed.4.4) computed.4.5

pub none-refused : ((a d rows kind edition n room : ℕ) (zs : List ℤ) → get_or zs 1 (pos 0) ≡ none → (r : Refusal) × (write_call a d rows kind edition n zs room ≡ refuses r)) → ⊥
none-refused f =
    let e = f 1 0 1 1 2013 1 10 (pos 0 ∷ none ∷ []) refl in
    let q : says no-sample ≡ refuses e.0 = sym computed.4.8 ∙ e.1 in
    clash (cc)

pub mark-a-number : ((l : Layout) → check_file l marked-text ≡ Ok tt → channel_of 1 (show_row l marked-text 1) ≡ Ok (Some (pos 99999))) → ⊥
mark-a-number f = let q : Ok None ≡ Ok (Some (pos 99999)) = sym computed.5.1 ∙ f (of-1999 1 0 1 Ascii) computed.5.0 in clash (cc)

pub mark-missing-under-2013 : ((l : Layout) → check_file l marked-text ≡ Ok tt → channel_of 1 (show_row l marked-text 1) ≡ Ok None) → ⊥
mark-missing-under-2013 f = let q : Ok (Some (pos 99999)) ≡ Ok None = sym computed.5.3 ∙ f (layout 1 0 1 Ascii) computed.5.2 in clash (cc)

pub empty-field-taken : ((a d rows : ℕ) (k : Kind) (s : List ℕ) → check_file (layout a d rows k) s ≡ Ok tt → check_file (of-1999 a d rows k) s ≡ Ok tt) → ⊥
empty-field-taken f =
    yes-no (check_file (of-1999 1 0 1 Ascii) (quoted "1,0,\r\n")) (refused 14 1 3) (f 1 0 1 Ascii (quoted "1,0,\r\n") computed.4.4) computed.5.4

pub edition-lost : ((a d rows : ℕ) (k m : Kind) (s : List ℕ) (room : ℕ) → change_said (of-1999 a d rows k) s m room ≡ change_said (layout a d rows k) s m room) → ⊥
edition-lost f =
    let q : says marked-text ≡ says no-sample-text = sym computed.5.5 ∙ f 1 0 1 Binary Ascii no-sample 14 ∙ computed.5.6 in
    let w : marked-text ≡ no-sample-text = cc in
    differ marked-text no-sample-text 4 refl w

pub missing-left-empty : ((l : Layout) (s u : List ℕ) (room : ℕ) → channel_of 1 (show_row l s 1) ≡ Ok None → change_said l s Ascii room ≡ says u → get_or u 4 0 ≡ 13) → ⊥
missing-left-empty f = eqb-false 57 13 refl (f (of-1999 1 0 1 Ascii) marked-text marked-text 14 computed.5.1 computed.5.10)

pub every-kind-taken : ((l : Layout) (s : List ℕ) (k : Kind) (room : ℕ) (r : Refusal) → check_file l s ≡ Ok tt → change_said l s k room ≡ refuses r → (reason_number r.reason ≡ 10 → ⊥)) → ⊥
every-kind-taken f = f (of-1999 1 0 1 Ascii) marked-text Binary32 14 (refused 10 0 0) computed.5.0 computed.5.7 refl

-- the recording of the rules as one of 1999
pub last-lines-shown-as-zeros : (c : Config) → read_config recording1999 ≡ Ok c → c.last ≡ last_with (pos 0) → ⊥
last-lines-shown-as-zeros c s e = let q : None ≡ last_with (pos 0) = ap (λ (c : Config). c.last) (one-shown (read_config recording1999) shows1999 c accepted-1999 s) ∙ e in clash (cc)

pub year-1999-told-as-2013 : (c : Config) → read_config recording1999 ≡ Ok c → c.layout.edition ≡ Y2013 → ⊥
year-1999-told-as-2013 c s e = let q : Y1999 ≡ Y2013 = ap (λ (c : Config). c.layout.edition) (one-shown (read_config recording1999) shows1999 c accepted-1999 s) ∙ e in clash (cc)

-- the recording of the rules, with the time code -0h30
pub minus-lost : (c : Config) → read_config (recording_with "03/02/2024" "-0h30,0") ≡ Ok c → c.last ≡ last_with (pos 30) → ⊥
minus-lost c s e = let w : Ok c.last ≡ Ok (last_with (neg_ℤ (pos 30))) = sym (ap ends_of s) ∙ recording-code in
    let v : c.last ≡ last_with (neg_ℤ (pos 30)) = cc in
    let q : neg_ℤ (pos 30) ≡ pos 30 = ap code_in (sym v ∙ e) in
    clash (cc q)
  where
    code_in : Option LastLines → ℤ
    code_in (Some x) = x.code
    code_in None = pos 0

-- the recording of the rules: its first sample is 1 ms before its trigger
pub first-and-trigger-exchanged : (c : Config) → read_config recording ≡ Ok c → (c.first ≡ recorded_at 1_000_000) × (c.trigger ≡ recorded_at 0) → ⊥
first-and-trigger-exchanged c s (e, g) =
    let q : recorded_at 0 ≡ recorded_at 1_000_000 = ap (λ (c : Config). c.first) (one-shown (read_config recording) recording_shows c recording-accepted s) ∙ e in
    eqb-false 0 1_000_000 refl (ap nanosecond_in q)
  where
    nanosecond_in : Option Moment → ℕ
    nanosecond_in (Some m) = m.time.nanosecond
    nanosecond_in None = 0

-- the recording of the rules without a clock, and with a date of zeros beside a time of day
pub zero-dates-refused : ((s : List ℕ) (c : Config) → read_config s ≡ Ok c → c.first ≡ None → ⊥) → ⊥
zero-dates-refused f = f no_clock no_clock_shows no-clock-accepted refl

pub moment-told-where-none : (c : Config) (t : Moment) → read_config no_clock ≡ Ok c → c.first ≡ Some t → ⊥
moment-told-where-none c t s e = let q : None ≡ Some t = ap (λ (c : Config). c.first) (one-shown (read_config no_clock) no_clock_shows c no-clock-accepted s) ∙ e in clash (cc)

pub time-told-where-unknown : (c : Config) (p : Span) → read_config no_clock ≡ Ok c → c.pretrigger ≡ Some p → ⊥
time-told-where-unknown c p s e = let q : None ≡ Some p = ap (λ (c : Config). c.pretrigger) (one-shown (read_config no_clock) no_clock_shows c no-clock-accepted s) ∙ e in clash (cc)

pub zero-date-with-any-time : (c : Config) → read_config (recording_with "00/00/0000" "0,0") ≡ Ok c → ⊥
zero-date-with-any-time c e = yes-no (read_config (recording_with "00/00/0000" "0,0")) (refused 6 8 1) e zero-date-refused

pub bad-time-told-at-the-time : read_config (recording_with "00/00/0000" "0,0") ≡ Err (refused 6 8 2) → ⊥
bad-time-told-at-the-time e = let q : refused 6 8 1 ≡ refused 6 8 2 = cc (sym zero-date-refused ∙ e) in eqb-false 1 2 refl (ap (λ (r : Refusal). r.field) q)

no-time-beside : date_line (quoted "00/00/0000,x") ≡ refuses (fault 6 1)
unfolding date_line field_count after_fields field_at read_date is_zero_date date_of fits_pattern fits_character digits_at number_of is_digit read_time time_form length_in
no-time-beside = refl

pub five-beside-no-date : date_line (quoted "00/00/0000,x") ≡ refuses (fault 5 2) → ⊥
five-beside-no-date e = let q : fault 6 1 ≡ fault 5 2 = cc (sym no-time-beside ∙ e) in eqb-false 6 5 refl (ap (λ (f : Fault). reason_number f.reason) q)

pub half-zero-date-taken : (c : Config) → read_config (recording_with "00/02/2024" "0,0") ≡ Ok c → ⊥
half-zero-date-taken c e = yes-no (read_config (recording_with "00/02/2024" "0,0")) (refused 6 8 1) e half-zero-refused

-- the recording of the rules, whose kind is ASCII, written as binary
binary-written : (w : List ℕ) × (rewrite_said recording Binary 172 ≡ says w)
unfolding has_kind
binary-written =
    let w = rewritten recording_shows Binary recording in
    let long : length w ≤ 172 = (never-long recording recording_shows recording-configuration Binary).0 in
    (w, (rewritten-exactly recording Binary 172 w).1 (recording_shows, recording-configuration, refl, refl, omega arith, long))

-- it shows binary
binary-shown : read_config binary-written.0 ≡ Ok (with_kind Binary recording_shows)
binary-shown = (written-accepted recording recording_shows recording-configuration Binary 172 binary-written.0 binary-written.1).1

pub refuses-every-writing : ((s : List ℕ) (k : Kind) (room : ℕ) → (r : Refusal) × (rewrite_said s k room ≡ refuses r)) → ⊥
refuses-every-writing h =
    let b = h recording Binary 172 in
    let q : says binary-written.0 ≡ refuses b.0 = sym binary-written.1 ∙ b.1 in
    clash (cc)

pub shows-the-old-kind : ((s w : List ℕ) (k : Kind) (room : ℕ) (b c : Config) → rewrite_said s k room ≡ says w → read_config s ≡ Ok b → read_config w ≡ Ok c → c.layout.kind ≡ b.layout.kind) → ⊥
unfolding with_kind
shows-the-old-kind h =
    let q : Binary ≡ Ascii = h recording binary-written.0 Binary 172 recording_shows (with_kind Binary recording_shows) binary-written.1 recording-accepted binary-shown in
    clash (cc)

pub copies-the-configuration : ((s w : List ℕ) (k : Kind) (room : ℕ) → rewrite_said s k room ≡ says w → w ≡ s) → ⊥
copies-the-configuration h =
    shows-the-old-kind (λ s w k room b c e f g. ap (λ (x : Config). x.layout.kind) (one-shown (read_config w) c b g (ap read_config (h s w k room e) ∙ f)))

pub asks-for-more-room : ((s w : List ℕ) (k : Kind) (room : ℕ) → rewrite_said s k room ≡ says w → length w < room) → ⊥
asks-for-more-room h =
    let w = binary-written.0 in
    let (c, t, has, q, small, fits) = (rewritten-exactly recording Binary 172 w).0 binary-written.1 in
    omega (arith, h recording w Binary (length w) ((rewritten-exactly recording Binary (length w) w).1 (c, t, has, q, small, omega arith)))
