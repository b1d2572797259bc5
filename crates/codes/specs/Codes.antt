-- Time codes: an optional sign, hours of one or two digits, and then nothing or h and two digits of minutes.
use Rattle.std.specs.Prelude.{ℕ, ◌+◌, ◌*◌, Bool, true, false, ◌&&◌, List, ℤ, pos, neg_ℤ, drop, if◌then◌else◌}
use Rattle.ground.specs.Quoted.{quoted}
use Rattle.numerals.specs.Counts.{length_in, leading_spaces}
use Rattle.numerals.specs.Wholes.{sign_length, has_minus}
use Rattle.std.specs.Prelude.{Err, Ok, Result}
use Rattle.numerals.specs.declared.FieldError.{FieldError}
use Rattle.codes.specs.declared.Code.{Code}
use Rattle.codes.specs.declared.Code.TheVariants.{Minutes, X}
use Rattle.numerals.specs.declared.FieldError.TheVariants.{Form, Range}
use Rattle.patterns.specs.Patterns.{fits_pattern, digits_at, between}

-- hours and minutes as minutes, the sign over both
unfoldable pub signed_minutes : Bool → ℕ → ℕ → ℤ
signed_minutes minus h m = if minus then neg_ℤ (pos (60 * h + m)) else pos (60 * h + m)

-- hours to 14 and minutes to 59, each judged apart
unfoldable pub minutes_of : Bool → ℕ → ℕ → Result Code FieldError
minutes_of minus h m = if between 0 14 h && between 0 59 m then Ok (Minutes (signed_minutes minus h m)) else Err Range

-- dhdd or ddhdd
unfoldable pub hours_and_minutes : Bool → List ℕ → Result Code FieldError
hours_and_minutes minus l =
    if fits_pattern (quoted "dhdd") l then minutes_of minus (digits_at 0 1 l) (digits_at 2 4 l)
    else if fits_pattern (quoted "ddhdd") l then minutes_of minus (digits_at 0 2 l) (digits_at 3 5 l)
    else Err Form

-- after the sign: d or dd, or with minutes
unfoldable pub hours_of : Bool → List ℕ → Result Code FieldError
hours_of minus l =
    if fits_pattern (quoted "d") l then minutes_of minus (digits_at 0 1 l) 0
    else if fits_pattern (quoted "dd") l then minutes_of minus (digits_at 0 2 l) 0
    else hours_and_minutes minus l

-- a small x, in the local code alone
unfoldable pub small_x : Bool → List ℕ → Bool
small_x local l = local && fits_pattern (quoted "x") l

-- after the leading spaces: a small x, or hours with their sign
unfoldable pub code_of : Bool → List ℕ → Result Code FieldError
code_of local l = if small_x local l then Ok X else hours_of (has_minus l) (drop (sign_length l) l)

-- 1 to 6 characters with the leading spaces
unfoldable pub code_in : Bool → List ℕ → Result Code FieldError
code_in local l = if length_in 1 6 l then code_of local (drop (leading_spaces l) l) else Err Form

-- the time code
unfoldable pub read_code : List ℕ → Result Code FieldError
read_code = code_in false

-- the local code, which may be a small x
unfoldable pub read_local_code : List ℕ → Result Code FieldError
read_local_code = code_in true
