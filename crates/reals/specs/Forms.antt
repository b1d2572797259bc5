-- Reals: leading spaces, an optional sign, a mantissa of digits with or without a point, an optional exponent; and their sign, read off the characters.
use Rattle.std.specs.Prelude.{ℕ, suc, ◌+◌, ◌-◌, List, [], ◌∷◌, Bool, ◌&&◌, ◌||◌, ltb, eqb, take, drop, if◌then◌else◌}
use Rattle.ground.specs.Tables.{every}
use Rattle.std.specs.Prelude.{None, Option, Some}
use Rattle.reals.specs.declared.Sign.{Sign}
use Rattle.reals.specs.declared.Sign.TheVariants.{Above, Below, Zero}
use Rattle.numerals.specs.Counts.{length_in, is_digit, leading_spaces, number_of}
use Rattle.numerals.specs.Wholes.{sign_length, has_minus}

-- how many digits lead
unfoldable pub leading_digits : List ℕ → ℕ
leading_digits [] = 0
leading_digits (b ∷ l) = if is_digit b then suc (leading_digits l) else 0

-- how many characters a point and digits take; 0 where there is no point, or no digit after it
unfoldable pub fraction_length : List ℕ → ℕ
fraction_length [] = 0
fraction_length (b ∷ l) = if eqb b 46 && ltb 0 (leading_digits l) then leading_digits l + 1 else 0

-- how many characters digits, or digits, a point and digits take; 0 where no digit leads
unfoldable pub mantissa_length : List ℕ → ℕ
mantissa_length l =
    if eqb (leading_digits l) 0 then 0 else leading_digits l + fraction_length (drop (leading_digits l) l)

-- e or E
unfoldable pub is_e : ℕ → Bool
is_e b = eqb b 101 || eqb b 69

-- 1 to 3 digits
unfoldable pub short_number : List ℕ → Option ℕ
short_number l = if length_in 1 3 l then number_of l else None

-- an exponent of that size, told 1100 up so that it is a count
unfoldable pub raised_by : Bool → Option ℕ → Option ℕ
raised_by minus (Some v) = Some (if minus then 1100 - v else 1100 + v)
raised_by minus None = None

-- an optional sign and 1 to 3 digits
unfoldable pub signed_exponent : List ℕ → Option ℕ
signed_exponent l = raised_by (has_minus l) (short_number (drop (sign_length l) l))

-- an exponent: nothing, or e or E and that
unfoldable pub exponent_of : List ℕ → Option ℕ
exponent_of [] = Some 1100
exponent_of (b ∷ l) = if is_e b then signed_exponent l else None

-- the form of a real, after its spaces and sign: a mantissa and an exponent, which is told
unfoldable pub real_form : List ℕ → Option ℕ
real_form l = if eqb (mantissa_length l) 0 then None else exponent_of (drop (mantissa_length l) l)

-- 0 or the point
unfoldable pub is_nought : ℕ → Bool
is_nought b = eqb b 48 || eqb b 46

-- zero by its mantissa: each character is 0 or the point
unfoldable pub is_zero : List ℕ → Bool
is_zero m = every is_nought m

-- that sign, where the form is right
abbrev pub with_form : Option ℕ → Sign → Option Sign
with_form (Some e) r = Some r
with_form None r = None

-- zero, below zero or above zero
unfoldable pub sign_of : Bool → Bool → Sign
sign_of zero minus = if zero then Zero else if minus then Below else Above

-- a real after its spaces and sign, with or without a minus
unfoldable pub real_sign : Bool → List ℕ → Option Sign
real_sign minus l = with_form (real_form l) (sign_of (is_zero (take (mantissa_length l) l)) minus)

-- a real after its spaces
unfoldable pub signed_real : List ℕ → Option Sign
signed_real l = real_sign (has_minus l) (drop (sign_length l) l)

-- a real in a field of least to most characters
unfoldable pub read_real : ℕ → ℕ → List ℕ → Option Sign
read_real least most l = if length_in least most l then signed_real (drop (leading_spaces l) l) else None
