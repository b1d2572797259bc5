-- The recording that the rules print whole: accepted with what its lines say; as one of 1999; as a recorder without a clock writes it. T10 is a line of it.
--     recording-accepted          it is accepted, and shows these values
--     recording-configuration     so there is a configuration, told without a reader
--     accepted-1999               as one of 1999 it is accepted, and shows the same, its last lines absent
--     configuration-1999          and that is a configuration too
--     no-clock-accepted           with both date lines of zeros it is accepted, and shows no dates and that the pre-trigger time is unknown
--     no-clock-configuration      and that is a configuration too
--     zero-date-refused           with 00/00/0000 beside its time it is refused with 6 at line 8, field 1
--     half-zero-refused           and so with 00/02/2024
--     recording-refused           T10: with 29/02/1900 as its first date it is refused with 6 at line 8, field 1
--     recording-code              with the time code -0h30 it shows 30 minutes below zero
-- Assumes nothing.
use mathlib.Core.Path.{◌≡◌, refl}
use mathlib.Core.Bool.{false}
use mathlib.Core.List.{List, [], ◌∷◌, ◌++◌}
use Prim.Native.Nat.{ℕ}
use Prim.Native.String.{String}
use lib.IntN.{ℤ, pos, neg_ℤ}
use lib.ListN.{replicate}
use Rattle.ground.specs.Quoted.{quoted}
use Rattle.text.specs.Lines.{scan_line, scan_last_line}
use Rattle.text.specs.Fields.{field_count, after_fields, field_at}
use Rattle.numerals.specs.Counts.{length_in, is_digit, number_of, read_count}
use Rattle.numerals.specs.Wholes.{sign_length, has_minus}
use Rattle.fields.specs.Fields.{in_range, read_count_in, read_lettered, read_year, read_one_of, digit_value, read_digit_of, read_state, read_side, read_quality, read_leap, small, read_kind}
use Rattle.reals.specs.Forms.{leading_digits, fraction_length, mantissa_length, is_e, short_number, raised_by, signed_exponent, exponent_of, real_form, is_nought, is_zero, sign_of, real_sign, signed_real, read_real}
use Rattle.reals.specs.Exact.{digits_of, decimal_places, exact_of, scaled, size_le, within_bound, in_bound, limit_of, signed_limit, read_limit, max_below}
use Rattle.patterns.specs.Patterns.{fits_character, fits_pattern, digits_at, between}
use Rattle.std.proofs.Common.{Err, None, Ok, Option, Some, Result}
use Rattle.clock.specs.declared.Moment.{Moment}
use Rattle.config_rules.specs.declared.LastLines.{LastLines}
use Rattle.clock.specs.declared.Span.{Span}
use Rattle.clock.specs.Dates.{leap_year, short_month, month_days, valid_date, date_of, is_zero_date, read_date, days_of_years, days_of_months, day_number}
use Rattle.clock.specs.Times.{valid_time, time_form, fraction_of, time_of, read_time, is_zero_time, second_of_day}
use Rattle.clock.specs.Spans.{second_number, span_of, pre_trigger, pretrigger_of}
use Rattle.codes.specs.Codes.{signed_minutes, minutes_of, hours_and_minutes, hours_of, small_x, code_of, code_in, read_code, read_local_code}
use Rattle.line_fields.specs.Faults.{text_fault, index_fault, real_fault, frequency_fault, above_fault}
use Rattle.channel_lines.specs.Channels.{channels_line, names, scale, limits, analog_line, status_line}
use Rattle.config_lines.specs.Lines.{station_line, frequency_line, rates_line, rate_line, date_line, kind_line, multiplier_line, codes_line, quality_line}
use Rattle.model.specs.declared.Kind.TheVariants.{Ascii}
use Rattle.model.specs.declared.Edition.{Edition}
use Rattle.model.specs.declared.Edition.TheVariants.{Y2013, Y1999}
use Rattle.model.specs.Editions.{edition_of, has_kind}
use Rattle.model.specs.Refusals.{refused}
use Rattle.config_rules.specs.declared.Config.{Config}
use Rattle.config.specs.Config.{configuration, read_config}
use Rattle.paper.specs.Configuration.{Configuration}
use Rattle.exact_config.proofs.ExactLaws.{config-exactly}
use Rattle.model.specs.declared.Refusal.{Refusal}

-- the configuration, with this year, these date lines, and these bytes after the time multiplier's line
abbrev pub recording_by : String → List ℕ → List ℕ → List ℕ → List ℕ
recording_by year first trigger end =
    quoted "Bench 2,R7,"
    ++ (quoted year
    ++ (quoted "\r\n2,1A,1D\r\n1,Ia,A,,A,0.5,0,0,-2048,2047,400,1,S\r\n1,Trip,,,0\r\n50\r\n1\r\n1000,2\r\n"
    ++ (first ++ (quoted "\r\n" ++ (trigger ++ (quoted "\r\nASCII\r\n1\r\n" ++ end))))))

-- its date lines, the first with this date
abbrev first_on : String → List ℕ
first_on date = quoted date ++ quoted ",09:15:00.000000"

abbrev trigger_line : List ℕ
trigger_line = quoted "03/02/2024,09:15:00.001000"

-- with this first date and these time codes
abbrev pub recording_with : String → String → List ℕ
recording_with first codes = recording_by "2013" (first_on first) trigger_line (quoted codes ++ quoted "\r\n0,3\r\n")

-- as one of 1999
abbrev pub recording1999 : List ℕ
recording1999 = recording_by "1999" (first_on "03/02/2024") trigger_line []

-- with these date lines
abbrev recording_dated : String → String → List ℕ
recording_dated first trigger = recording_by "2013" (quoted first) (quoted trigger) (quoted "0,0\r\n0,3\r\n")

-- as a recorder without a clock writes it
abbrev pub no_clock : List ℕ
no_clock = recording_dated "00/00/0000,00:00:00.000000" "00/00/0000,00:00:00.000000"

-- as the rules print it
abbrev pub recording : List ℕ
recording = recording_with "03/02/2024" "0,0"

-- the moment of its day and minute with these nanoseconds
abbrev pub recorded_at : ℕ → Option Moment
recorded_at n = Some (record { date = record { day = 3; month = 2; year = 2024 }; time = record { hour = 9; minute = 15; second = 0; nanosecond = n } })

-- what it shows, of its edition, its stamps, the time between them and its last lines
abbrev shows_by : Edition → Option Moment → Option Moment → Option Span → Option LastLines → Config
shows_by edition first trigger pretrigger last =
    record {
      layout = record { analogs = 1; statuses = 1; rows = 2; kind = Ascii; edition = edition };
      rates = 1;
      lasts = 2 ∷ replicate 7 0;
      first = first;
      trigger = trigger;
      pretrigger = pretrigger;
      last = last;
    }

-- with a clock
abbrev shows_dated : Edition → Option LastLines → Config
shows_dated edition last = shows_by edition (recorded_at 0) (recorded_at 1_000_000) (Some (record { seconds = pos 0; nanoseconds = 1_000_000 })) last

-- what the last lines say, with this time code
abbrev pub last_with : ℤ → Option LastLines
last_with code = Some (record { code = code; x = false; local = pos 0; quality = 0; leap = 3 })

-- as the rules print it
abbrev pub recording_shows : Config
recording_shows = shows_dated Y2013 (last_with (pos 0))

-- as one of 1999
abbrev pub shows1999 : Config
shows1999 = shows_dated Y1999 None

-- without a clock
abbrev pub no_clock_shows : Config
no_clock_shows = shows_by Y2013 None None None (last_with (pos 0))

-- what an accepted configuration shows of its last lines, or its refusal
abbrev pub ends_of : Result Config Refusal → Result (Option LastLines) Refusal
ends_of (Ok c) = Ok c.last
ends_of (Err r) = Err r

computed :
    (read_config recording ≡ Ok recording_shows)
    × (read_config (recording_with "29/02/1900" "0,0") ≡ Err (refused 6 8 1))
    × (ends_of (read_config (recording_with "03/02/2024" "-0h30,0")) ≡ Ok (last_with (neg_ℤ (pos 30))))
    × (read_config recording1999 ≡ Ok shows1999)
    × (read_config no_clock ≡ Ok no_clock_shows)
    × (read_config (recording_with "00/00/0000" "0,0") ≡ Err (refused 6 8 1))
    × (read_config (recording_with "00/02/2024" "0,0") ≡ Err (refused 6 8 1))
unfolding read_config configuration scan_line scan_last_line field_count after_fields field_at length_in is_digit number_of read_count sign_length has_minus
    station_line channels_line names scale limits analog_line status_line frequency_line rates_line rate_line date_line kind_line multiplier_line codes_line quality_line
    edition_of has_kind text_fault index_fault real_fault frequency_fault above_fault in_range read_count_in read_lettered read_year read_one_of digit_value read_digit_of read_state read_side read_quality read_leap small read_kind
    leading_digits fraction_length mantissa_length is_e short_number raised_by signed_exponent exponent_of real_form is_nought is_zero sign_of real_sign signed_real read_real
    digits_of decimal_places exact_of scaled size_le within_bound in_bound limit_of signed_limit read_limit max_below
    read_date date_of is_zero_date fits_pattern fits_character valid_date between month_days leap_year short_month digits_at read_time time_form valid_time time_of fraction_of is_zero_time
    pretrigger_of pre_trigger span_of second_number day_number days_of_years days_of_months second_of_day
    read_code read_local_code code_in code_of small_x hours_and_minutes hours_of minutes_of signed_minutes
computed = (refl, refl, refl, refl, refl, refl, refl)

pub recording-accepted : read_config recording ≡ Ok recording_shows
recording-accepted = computed.0

-- DEMAND 2. There is a configuration, and it shows all this
pub recording-configuration : Configuration recording recording_shows
recording-configuration = (config-exactly recording recording_shows).0 recording-accepted

pub accepted-1999 : read_config recording1999 ≡ Ok shows1999
accepted-1999 = computed.3

-- DEMAND 2. There is a configuration of 1999, and its last lines are absent
pub configuration-1999 : Configuration recording1999 shows1999
configuration-1999 = (config-exactly recording1999 shows1999).0 accepted-1999

pub no-clock-accepted : read_config no_clock ≡ Ok no_clock_shows
no-clock-accepted = computed.4

-- DEMAND 2. There is a configuration without dates, and its pre-trigger time is unknown
pub no-clock-configuration : Configuration no_clock no_clock_shows
no-clock-configuration = (config-exactly no_clock no_clock_shows).0 no-clock-accepted

pub zero-date-refused : read_config (recording_with "00/00/0000" "0,0") ≡ Err (refused 6 8 1)
zero-date-refused = computed.5

pub half-zero-refused : read_config (recording_with "00/02/2024" "0,0") ≡ Err (refused 6 8 1)
half-zero-refused = computed.6

pub recording-refused : read_config (recording_with "29/02/1900" "0,0") ≡ Err (refused 6 8 1)
recording-refused = computed.1

pub recording-code : ends_of (read_config (recording_with "03/02/2024" "-0h30,0")) ≡ Ok (last_with (neg_ℤ (pos 30)))
recording-code = computed.2
