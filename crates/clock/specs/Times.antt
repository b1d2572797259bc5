-- Times of day, as hh:mm:ss. and 6 to 9 digits.
use Rattle.std.specs.Prelude.{ℕ, ◌+◌, ◌-◌, ◌*◌, ◌^◌, Bool, ◌&&◌, List, eqb, ltb, length, take, if◌then◌else◌}
use Rattle.ground.specs.Quoted.{quoted}
use Rattle.numerals.specs.Counts.{length_in}
use Rattle.clock.specs.declared.Time.{Time}
use Rattle.std.specs.Prelude.{Err, Ok, Result}
use Rattle.numerals.specs.declared.FieldError.{FieldError}
use Rattle.numerals.specs.declared.FieldError.TheVariants.{Form, Range}
use Rattle.patterns.specs.Patterns.{fits_pattern, digits_at}

-- hours to 23, minutes and seconds to 59, and less than a second in nanoseconds
unfoldable pub valid_time : Time → Bool
valid_time x = ltb x.hour 24 && ltb x.minute 60 && ltb x.second 60 && ltb x.nanosecond 1_000_000_000

-- hh:mm:ss. and 9 digits
abbrev pub time_pattern : List ℕ
time_pattern = quoted "dd:dd:dd.ddddddddd"

-- 15 to 18 characters that fit as much of the pattern
unfoldable pub time_form : List ℕ → Bool
time_form l = length_in 15 18 l && fits_pattern (take (length l) time_pattern) l

-- the digits from place 9 on, of 9 in all, as nanoseconds
unfoldable pub fraction_of : List ℕ → ℕ
fraction_of l = digits_at 9 (length l) l * 10 ^ (18 - length l)

-- what characters of that form say
unfoldable pub time_of : List ℕ → Time
time_of l = record { hour = digits_at 0 2 l; minute = digits_at 3 5 l; second = digits_at 6 8 l; nanosecond = fraction_of l }

-- a time of day: the pattern first, and then the range
unfoldable pub read_time : List ℕ → Result Time FieldError
read_time l = if time_form l then if valid_time (time_of l) then Ok (time_of l) else Err Range else Err Form

-- a time of zeros
unfoldable pub is_zero_time : Time → Bool
is_zero_time x = eqb x.hour 0 && eqb x.minute 0 && eqb x.second 0 && eqb x.nanosecond 0

-- the whole seconds of a day that are gone
unfoldable pub second_of_day : Time → ℕ
second_of_day x = 3600 * x.hour + 60 * x.minute + x.second
