-- Exact decimals: the number of a real of at most 13 characters, its bound, its order. Numbers are told 10 ^ 1100 times as large, so that they are whole.
use Rattle.std.specs.Prelude.{ℕ, ◌+◌, ◌-◌, ◌*◌, ◌^◌, List, [], ◌∷◌, Bool, leb, ℤ, pos, neg_ℤ, take, drop, if◌then◌else◌}
use Rattle.std.specs.Int.Signed.{lt_z}
use Rattle.std.specs.Prelude.{Err, None, Ok, Option, Result, Some}
use Rattle.numerals.specs.declared.FieldError.{FieldError}
use Rattle.numerals.specs.declared.FieldError.TheVariants.{Form, Range}
use Rattle.numerals.specs.Counts.{length_in, is_digit, leading_spaces}
use Rattle.numerals.specs.Wholes.{sign_length, has_minus}
use Rattle.reals.specs.declared.Exact.{Exact}
use Rattle.reals.specs.Forms.{leading_digits, fraction_length, mantissa_length, real_form}

-- the digits of a mantissa as a whole number, after digits worth v; the point is passed over
unfoldable pub digits_of : ℕ → List ℕ → ℕ
digits_of v [] = v
digits_of v (b ∷ l) = if is_digit b then digits_of (10 * v + (b - 48)) l else digits_of v l

-- how many digits stand after the point
unfoldable pub decimal_places : List ℕ → ℕ
decimal_places l = fraction_length (drop (leading_digits l) l) - 1

-- the number of a real after its spaces and sign, whose exponent is e, 1100 up
unfoldable pub exact_of : Bool → ℕ → List ℕ → Exact
exact_of minus e l = record { minus = minus; digits = digits_of 0 (take (mantissa_length l) l); scale = e - decimal_places l }

-- the number, 10 ^ 1100 times as large
unfoldable pub scaled : Exact → ℤ
scaled x = if x.minus then neg_ℤ (pos (x.digits * 10 ^ x.scale)) else pos (x.digits * 10 ^ x.scale)

-- the order of sizes
unfoldable pub size_le : ℕ → ℕ → ℕ → ℕ → Bool
size_le m x n y = leb (m * 10 ^ x) (n * 10 ^ y)

-- not further from zero than 3.4028235E38
unfoldable pub within_bound : Exact → Bool
within_bound x = size_le x.digits x.scale 34028235 (31 + 1100)

-- a limit, where it is within that bound
unfoldable pub in_bound : Exact → Result Exact FieldError
in_bound x = if within_bound x then Ok x else Err Range

-- the limit of a real after its spaces and sign, whose form is told
abbrev pub limit_from : Bool → List ℕ → Option ℕ → Result Exact FieldError
limit_from minus l (Some e) = in_bound (exact_of minus e l)
limit_from minus l None = Err Form

-- a limit after its spaces and sign
unfoldable pub limit_of : Bool → List ℕ → Result Exact FieldError
limit_of minus l = limit_from minus l (real_form l)

-- a limit after its spaces
unfoldable pub signed_limit : List ℕ → Result Exact FieldError
signed_limit l = limit_of (has_minus l) (drop (sign_length l) l)

-- min or max of a channel: a real in a field of 1 to 13 characters, within the bound
unfoldable pub read_limit : List ℕ → Result Exact FieldError
read_limit l = if length_in 1 13 l then signed_limit (drop (leading_spaces l) l) else Err Form

-- max is below min
unfoldable pub max_below : Exact → Exact → Bool
max_below max min = lt_z (scaled max) (scaled min)
