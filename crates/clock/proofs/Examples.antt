-- Dates by example, each computed.
--     examples      a century that is no leap year; no date; zeros in part; zeros of another form
-- Assumes nothing.
use mathlib.Core.Path.{◌≡◌, refl}
use Rattle.ground.specs.Quoted.{quoted}
use Rattle.numerals.specs.Counts.{is_digit, number_of}
use Rattle.patterns.specs.Patterns.{fits_character, fits_pattern, digits_at, between}
use Rattle.std.proofs.Common.{Err, None, Ok}
use Rattle.numerals.specs.declared.FieldError.TheVariants.{Form, Range}
use Rattle.clock.specs.Dates.{leap_year, short_month, month_days, valid_date, date_of, is_zero_date, read_date}

pub examples :
    (read_date (quoted "29/02/2100") ≡ Err Range)
    × (read_date (quoted "00/00/0000") ≡ Ok None)
    × (read_date (quoted "01/01/0000") ≡ Err Range)
    × (read_date (quoted "0/0/0000") ≡ Err Form)
unfolding read_date is_zero_date date_of fits_pattern fits_character valid_date between month_days leap_year short_month digits_at number_of is_digit
examples = (refl, refl, refl, refl)
