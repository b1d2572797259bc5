-- The lines of a configuration that speak of no channel, each by itself: its fields from the left, each with its rule. The lines of channels stand in crate channel_lines.
use Rattle.std.specs.Prelude.{Bool, true, false, List, ℕ, ltb, ℤ, pos, if◌then◌else◌}
use Rattle.ground.specs.Said.{Said, says, refuses, ◌>>=◌, ◌>>◌, must}
use Rattle.text.specs.Fields.{field_at}
use Rattle.std.specs.Prelude.{Err, None, Ok, Option, Result, Some}
use Rattle.clock.specs.declared.Moment.{Moment}
use Rattle.numerals.specs.declared.FieldError.{FieldError}
use Rattle.clock.specs.declared.Date.{Date}
use Rattle.codes.specs.declared.Code.{Code}
use Rattle.codes.specs.declared.Code.TheVariants.{Minutes, X}
use Rattle.numerals.specs.declared.FieldError.TheVariants.{Form, Range}
use Rattle.fields.specs.Fields.{read_count_in, read_year, read_quality, read_leap, read_kind}
use Rattle.clock.specs.declared.Time.{Time}
use Rattle.clock.specs.Dates.{read_date}
use Rattle.clock.specs.Times.{read_time, is_zero_time}
use Rattle.codes.specs.Codes.{read_code, read_local_code}
use Rattle.model.specs.declared.Kind.{Kind}
use Rattle.model.specs.declared.Edition.{Edition}
use Rattle.model.specs.Editions.{edition_of, has_kind}
use Rattle.line_fields.specs.declared.Fault.{Fault}
use Rattle.line_fields.specs.Faults.{text_fault, frequency_fault, above_fault, rate_fault}
use Rattle.line_fields.specs.Checks.{fault, has_fields, faultless, value_at, value}

-- the edition of the year in field k: 8 for a year that is none's
abbrev pub edition_at : ℕ → Option Edition → Said Fault Edition
edition_at k (Some e) = says e
edition_at k None = refuses (fault 8 k)

-- the edition by its year: 5 for its form
abbrev pub year_at : ℕ → Option ℕ → Said Fault Edition
year_at k (Some y) = edition_at k (edition_of y)
year_at k None = refuses (fault 5 k)

-- a kind that the edition has; another is not allowed
abbrev pub of_edition : Edition → Result Kind FieldError → Result Kind FieldError
of_edition e (Ok x) = if has_kind e x then Ok x else Err Range
of_edition e (Err Form) = Err Form
of_edition e (Err Range) = Err Range

-- the minutes of a time code
abbrev pub code_at : ℕ → Result Code FieldError → Said Fault ℤ
code_at k (Ok (Minutes m)) = says m
code_at k (Ok X) = refuses (fault 5 k)
code_at k (Err Form) = refuses (fault 5 k)
code_at k (Err Range) = refuses (fault 6 k)

-- whether a local code is x, and its minutes
abbrev pub local_at : ℕ → Result Code FieldError → Said Fault (Bool × ℤ)
local_at k (Ok (Minutes m)) = says (false, m)
local_at k (Ok X) = says (true, pos 0)
local_at k (Err Form) = refuses (fault 5 k)
local_at k (Err Range) = refuses (fault 6 k)

-- station, device, year, which says the edition
unfoldable pub station_line : List ℕ → Said Fault Edition
station_line l = do
  has_fields 3 l
  faultless 1 (text_fault 0 64) l
  faultless 2 (text_fault 0 64) l
  year_at 3 (read_year (field_at 3 l))

-- line frequency: empty or a real
unfoldable pub frequency_line : List ℕ → Said Fault (Unit {0})
frequency_line l = do
  has_fields 1 l
  faultless 1 frequency_fault l

-- the number of rates
unfoldable pub rates_line : List ℕ → Said Fault ℕ
rates_line l = do
  has_fields 1 l
  value 1 (read_count_in 3 0 8) l

-- a rate and its last row, which is above the one before and is said
unfoldable pub rate_line : Bool → ℕ → List ℕ → Said Fault ℕ
rate_line none before l = do
  has_fields 2 l
  faultless 1 (rate_fault none) l
  last ← value 2 (read_count_in 10 1 1000000) l
  must (ltb before last) (fault 7 2)
  says last

-- beside a date of zeros: a time of zeros, and there is no date; anything else is 6 at the date
abbrev pub none_said : Result Time FieldError → Said Fault (Option Moment)
none_said (Ok t) = do
  must (is_zero_time t) (fault 6 1)
  says None
none_said (Err Form) = refuses (fault 6 1)
none_said (Err Range) = refuses (fault 6 1)

-- what a date and a time say together
abbrev pub stamp_said : Result (Option Date) FieldError → Result Time FieldError → Said Fault (Option Moment)
stamp_said (Ok (Some x)) t = do
  y ← value_at 2 t
  says (Some (record { date = x; time = y }))
stamp_said (Ok None) t = none_said t
stamp_said (Err Form) t = refuses (fault 5 1)
stamp_said (Err Range) t = refuses (fault 6 1)

-- a date and a time, or no date
unfoldable pub date_line : List ℕ → Said Fault (Option Moment)
date_line l = do
  has_fields 2 l
  stamp_said (read_date (field_at 1 l)) (read_time (field_at 2 l))

-- the kind, which is one of the edition's
unfoldable pub kind_line : Edition → List ℕ → Said Fault Kind
kind_line e l = do
  has_fields 1 l
  value_at 1 (of_edition e (read_kind (field_at 1 l)))

-- the time multiplier: a real above zero
unfoldable pub multiplier_line : List ℕ → Said Fault (Unit {0})
multiplier_line l = do
  has_fields 1 l
  faultless 1 above_fault l

-- the time code, whether the local code is x, and the local code
unfoldable pub codes_line : List ℕ → Said Fault (ℤ × Bool × ℤ)
codes_line l = do
  has_fields 2 l
  m ← code_at 1 (read_code (field_at 1 l))
  (x, n) ← local_at 2 (read_local_code (field_at 2 l))
  says (m, x, n)

-- time quality and leap second code
unfoldable pub quality_line : List ℕ → Said Fault (ℕ × ℕ)
quality_line l = do
  has_fields 2 l
  q ← value 1 read_quality l
  p ← value 2 read_leap l
  says (q, p)
