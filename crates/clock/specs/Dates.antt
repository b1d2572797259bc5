-- Dates of the years 1900 to 9999, as dd/mm/yyyy, no date, and days counted.
use Rattle.std.specs.Prelude.{ℕ, zero, suc, ◌+◌, ◌-◌, ◌*◌, ◌/◌, ◌%◌, Bool, true, false, not, ◌&&◌, ◌||◌, List, eqb, ℤ, pos, if◌then◌else◌}
use Rattle.ground.specs.Quoted.{quoted}
use Rattle.clock.specs.declared.Date.{Date}
use Rattle.std.specs.Prelude.{Err, None, Ok, Option, Result, Some}
use Rattle.numerals.specs.declared.FieldError.{FieldError}
use Rattle.numerals.specs.declared.FieldError.TheVariants.{Form, Range}
use Rattle.patterns.specs.Patterns.{fits_pattern, digits_at, between}

-- a leap year: by 400, or by 4 and not by 100
unfoldable pub leap_year : ℕ → Bool
leap_year y = if eqb (y % 400) 0 then true else if eqb (y % 100) 0 then false else eqb (y % 4) 0

-- April, June, September and November
unfoldable pub short_month : ℕ → Bool
short_month m = eqb m 4 || eqb m 6 || eqb m 9 || eqb m 11

-- the days of a month
unfoldable pub month_days : ℕ → ℕ → ℕ
month_days y m = if eqb m 2 then if leap_year y then 29 else 28 else if short_month m then 30 else 31

-- a day of the Gregorian calendar, in the years 1900 to 9999
unfoldable pub valid_date : Date → Bool
valid_date x = between 1900 9999 x.year && between 1 12 x.month && between 1 (month_days x.year x.month) x.day

-- dd/mm/yyyy
abbrev pub date_pattern : List ℕ
date_pattern = quoted "dd/dd/dddd"

-- what characters that fit the pattern say
unfoldable pub date_of : List ℕ → Date
date_of l = record { day = digits_at 0 2 l; month = digits_at 3 5 l; year = digits_at 6 10 l }

-- day, month and year are zero
unfoldable pub is_zero_date : Date → Bool
is_zero_date x = eqb x.day 0 && eqb x.month 0 && eqb x.year 0

-- a date: the pattern first; all zeros are no date; and then the range
unfoldable pub read_date : List ℕ → Result (Option Date) FieldError
read_date l =
    if not (fits_pattern date_pattern l) then Err Form
    else if is_zero_date (date_of l) then Ok None
    else if valid_date (date_of l) then Ok (Some (date_of l))
    else Err Range

-- the days of the first n years, counted from year 1
unfoldable pub days_of_years : ℕ → ℕ
days_of_years n = 365 * n + n / 4 - n / 100 + n / 400

-- the days of the first n months of a year
unfoldable pub days_of_months : ℕ → ℕ → ℕ
days_of_months y zero = 0
days_of_months y (suc n) = days_of_months y n + month_days y (suc n)

-- the number of a day: 01/01/0001 is day 1
unfoldable pub day_number : Date → ℤ
day_number x = pos (days_of_years (x.year - 1) + days_of_months x.year (x.month - 1) + x.day)
