-- Reals by example, each computed.
--     examples      no space before the exponent; a number that no float holds is above zero; two limits that are equal as floats are not
-- Assumes nothing.
use mathlib.Core.Path.{◌≡◌, refl}
use mathlib.Core.Bool.{Bool, true, false}
use Rattle.ground.specs.Quoted.{quoted}
use Rattle.numerals.specs.Counts.{length_in, is_digit, number_of}
use Rattle.numerals.specs.Wholes.{sign_length, has_minus}
use Rattle.std.proofs.Common.{Err, None, Ok, Result, Some}
use Rattle.reals.specs.declared.Exact.{Exact}
use Rattle.numerals.specs.declared.FieldError.{FieldError}
use Rattle.numerals.specs.declared.FieldError.TheVariants.{Form, Range}
use Rattle.reals.specs.declared.Sign.TheVariants.{Above}
use Rattle.reals.specs.Forms.{leading_digits, fraction_length, mantissa_length, is_e, short_number, raised_by, signed_exponent, exponent_of, real_form}
use Rattle.reals.specs.Forms.{is_nought, is_zero, sign_of, real_sign, signed_real, read_real}
use Rattle.reals.specs.Exact.{digits_of, decimal_places, exact_of, scaled, size_le, within_bound, in_bound, limit_of, signed_limit, read_limit, max_below}

-- max is below min, where both are limits
abbrev below : Result Exact FieldError → Result Exact FieldError → Bool
below (Ok max) (Ok min) = max_below max min
below (Ok max) (Err Form) = false
below (Ok max) (Err Range) = false
below (Err Form) min = false
below (Err Range) min = false

pub examples :
    (read_real 1 32 (quoted "0.123 E4") ≡ None)
    × (read_real 1 32 (quoted "1E-999") ≡ Some Above)
    × (below (read_limit (quoted "16777216")) (read_limit (quoted "16777217")) ≡ true)
unfolding
    length_in is_digit number_of sign_length has_minus
    leading_digits fraction_length mantissa_length is_e short_number raised_by signed_exponent exponent_of real_form
    is_nought is_zero sign_of real_sign signed_real read_real
    digits_of decimal_places exact_of scaled size_le within_bound in_bound limit_of signed_limit read_limit max_below
examples = (refl, refl, refl)
