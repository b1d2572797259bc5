-- WHAT A FIELD IS: its characters, and the number, date or word that they say. Read last; no reader stands here.
-- A character is its byte; `quoted` gives the bytes of a text.
use Rattle.std.specs.Prelude.{◌≡◌, ◌⊎◌, Bool, true, ◌&&◌, List, [], ◌∷◌, ◌++◌, ℕ, zero, suc, ◌+◌, ◌-◌, ◌*◌, ◌%◌, ◌^◌, ◌≤◌, eqb, leb, ℤ, pos, neg_ℤ, nat_abs, length, get_or, replicate, ◌≤ℤ◌, if◌then◌else◌}
use Prim.Native.String.{String}
use Rattle.ground.specs.Quoted.{quoted}
use Rattle.ground.specs.Tables.{every}
use Rattle.clock.specs.declared.Date.{Date}
use Rattle.clock.specs.declared.Time.{Time}
use Rattle.reals.specs.declared.Sign as real
use Rattle.reals.specs.declared.Sign.TheVariants.{Above, Below, Zero}
use Rattle.model.specs.declared.Kind.{Kind}
use Rattle.model.specs.declared.Kind.TheVariants.{Ascii, Binary, Binary32}

-- TEXTS
-- a text of least to most characters
pub record TextField (least most : ℕ) (f : List ℕ) : Type 0 where
  pub long : least ≤ length f
  pub short : length f ≤ most

-- DIGITS AND COUNTS
-- a byte from low to high
abbrev pub is_between : ℕ → ℕ → ℕ → Bool
is_between low high b = leb low b && leb b high

-- digits and nothing else: 0 is byte 48, 9 is byte 57
abbrev pub AllDigits : List ℕ → Type 0
AllDigits l = every (is_between 48 57) l ≡ true

-- so many digits
pub record Digits (n : ℕ) (l : List ℕ) : Type 0 where
  pub count : length l ≡ n
  pub all : AllDigits l

-- one digit or more
pub record SomeDigits (l : List ℕ) : Type 0 where
  pub some : 1 ≤ length l
  pub all : AllDigits l

-- the number that digits say: each is worth so many times a power of ten
abbrev pub decimal_value : List ℕ → ℕ
decimal_value [] = 0
decimal_value (b ∷ l) = (b - 48) * 10 ^ length l + decimal_value l

-- spaces
abbrev pub spaces : ℕ → List ℕ
spaces n = replicate n 32

-- a count: leading spaces and then digits, at most so many characters in all; it says v
pub record CountField (most v : ℕ) (f : List ℕ) : Type 0 where
  pub leading : ℕ
  pub digits : List ℕ
  pub text : f ≡ spaces leading ++ digits
  pub number : SomeDigits digits
  pub short : length f ≤ most
  pub worth : v ≡ decimal_value digits

-- a count from low to high
pub record CountIn (most low high v : ℕ) (f : List ℕ) : Type 0 where
  pub count : CountField most v f
  pub least : low ≤ v
  pub greatest : v ≤ high

-- a count of at most 6 characters and then a letter
pub record LetteredForm (letter : String) (v : ℕ) (f : List ℕ) : Type 0 where
  pub number : List ℕ
  pub text : f ≡ number ++ quoted letter
  pub count : CountField 6 v number

-- such a count, 0 to high
pub record Lettered (letter : String) (high v : ℕ) (f : List ℕ) : Type 0 where
  pub form : LetteredForm letter v f
  pub greatest : v ≤ high

-- SIGNS AND WHOLE NUMBERS
-- an optional sign
pub data Sign : Type 0 where
  none : Sign
  plus : Sign
  minus : Sign

-- its characters
abbrev pub sign_text : Sign → List ℕ
sign_text none = []
sign_text plus = quoted "+"
sign_text minus = quoted "-"

-- a number with that sign
abbrev pub signed : Sign → ℕ → ℤ
signed none v = pos v
signed plus v = pos v
signed minus v = neg_ℤ (pos v)

-- a whole number: leading spaces, an optional sign and digits, at most 13 characters in all; it says z
pub record WholeField (z : ℤ) (f : List ℕ) : Type 0 where
  pub leading : ℕ
  pub sign : Sign
  pub digits : List ℕ
  pub text : f ≡ spaces leading ++ (sign_text sign ++ digits)
  pub number : SomeDigits digits
  pub short : length f ≤ 13
  pub worth : z ≡ signed sign (decimal_value digits)

-- REALS
-- an optional exponent: nothing, or a letter, an optional sign and digits
pub data Exponent : Type 0 where
  unraised : Exponent
  raised : List ℕ → Sign → List ℕ → Exponent

-- its characters
abbrev pub exponent_text : Exponent → List ℕ
exponent_text unraised = []
exponent_text (raised letter sign digits) = letter ++ (sign_text sign ++ digits)

-- the letter is e or E, and there are 1 to 3 digits
abbrev pub FineExponent : Exponent → Type 0
FineExponent unraised = Unit {0}
FineExponent (raised letter sign digits) = ((letter ≡ quoted "e") ⊎ (letter ≡ quoted "E")) × SomeDigits digits × (length digits ≤ 3)

-- digits after a point; no point where there are none
abbrev pub with_point : List ℕ → List ℕ
with_point [] = []
with_point (b ∷ l) = quoted "." ++ b ∷ l

-- a real without its sign: digits, optionally a point with digits on both sides, optionally an exponent
pub record Decimal (l : List ℕ) : Type 0 where
  pub whole : List ℕ
  pub fraction : List ℕ
  pub exponent : Exponent
  pub text : l ≡ (whole ++ with_point fraction) ++ exponent_text exponent
  pub wholes : SomeDigits whole
  pub fractions : AllDigits fraction
  pub exponents : FineExponent exponent

-- whether a number of that sign and size is below zero, zero or above zero
abbrev pub real_of : Sign → ℕ → real.Sign
real_of sign zero = Zero
real_of none (suc v) = Above
real_of plus (suc v) = Above
real_of minus (suc v) = Below

-- a real: leading spaces, an optional sign and then that, at most 32 characters in all; it is r of zero, by its digits, whatever its exponent
pub record RealField (r : real.Sign) (f : List ℕ) : Type 0 where
  pub leading : ℕ
  pub sign : Sign
  pub size : List ℕ
  pub text : f ≡ spaces leading ++ (sign_text sign ++ size)
  pub decimal : Decimal size
  pub short : length f ≤ 32
  pub worth : r ≡ real_of sign (decimal_value (decimal.whole ++ decimal.fraction))

-- a real, whatever its sign
abbrev pub AnyReal : List ℕ → Type 0
AnyReal f = (r : real.Sign) × RealField r f

-- e is the number of an exponent, 1100 up
abbrev pub RaisedTo : ℕ → Exponent → Type 0
RaisedTo e unraised = e ≡ 1100
RaisedTo e (raised letter none digits) = e ≡ 1100 + decimal_value digits
RaisedTo e (raised letter plus digits) = e ≡ 1100 + decimal_value digits
RaisedTo e (raised letter minus digits) = e + decimal_value digits ≡ 1100

-- a real of at most 13 characters; it is z, told 10 ^ 1100 times as large, so that it is whole
pub record LimitForm (z : ℤ) (f : List ℕ) : Type 0 where
  pub leading : ℕ
  pub sign : Sign
  pub size : List ℕ
  pub text : f ≡ spaces leading ++ (sign_text sign ++ size)
  pub decimal : Decimal size
  pub short : length f ≤ 13
  pub scale : ℕ
  pub power : RaisedTo (scale + length decimal.fraction) decimal.exponent
  pub worth : z ≡ signed sign (decimal_value (decimal.whole ++ decimal.fraction) * 10 ^ scale)

-- min or max: such a real, within 3.4028235E38 of zero
pub record LimitField (z : ℤ) (f : List ℕ) : Type 0 where
  pub form : LimitForm z f
  pub near : nat_abs z ≤ 34028235 * 10 ^ (31 + 1100)

-- min and max, of which max is not below min, as exact decimals
pub record Limits (low high : List ℕ) : Type 0 where
  pub least : ℤ
  pub greatest : ℤ
  pub min : LimitField least low
  pub max : LimitField greatest high
  pub order : least ≤ℤ greatest

-- DATES AND TIMES
-- February of a year: 29 days in years by 400, and by 4 and not by 100
abbrev pub february : ℕ → ℕ
february y = if eqb (y % 400) 0 then 29 else if eqb (y % 100) 0 then 28 else if eqb (y % 4) 0 then 29 else 28

-- the days of a year's months
abbrev pub month_lengths : ℕ → List ℕ
month_lengths y = 31 ∷ february y ∷ 31 ∷ 30 ∷ 31 ∷ 30 ∷ 31 ∷ 31 ∷ 30 ∷ 31 ∷ 30 ∷ 31 ∷ []

-- a day of the Gregorian calendar, in the years 1900 to 9999
pub record Day (x : Date) : Type 0 where
  pub years : (1900 ≤ x.year) × (x.year ≤ 9999)
  pub months : (1 ≤ x.month) × (x.month ≤ 12)
  pub days : (1 ≤ x.day) × (x.day ≤ get_or (month_lengths x.year) (x.month - 1) 0)

-- day, month and year in 2, 2 and 4 digits with strokes between them; they say x
pub record DateForm (x : Date) (f : List ℕ) : Type 0 where
  pub day : List ℕ
  pub month : List ℕ
  pub year : List ℕ
  pub text : f ≡ day ++ (quoted "/" ++ (month ++ (quoted "/" ++ year)))
  pub days : Digits 2 day
  pub months : Digits 2 month
  pub years : Digits 4 year
  pub worth : x ≡ record { day = decimal_value day; month = decimal_value month; year = decimal_value year }

-- a date: such characters that say a day of the calendar
pub record DateText (x : Date) (f : List ℕ) : Type 0 where
  pub form : DateForm x f
  pub valid : Day x

-- hours, minutes and seconds in 2 digits each with colons between them, a point and 6 to 9 digits; they say x, in nanoseconds
pub record TimeForm (x : Time) (f : List ℕ) : Type 0 where
  pub hour : List ℕ
  pub minute : List ℕ
  pub second : List ℕ
  pub fraction : List ℕ
  pub text : f ≡ hour ++ (quoted ":" ++ (minute ++ (quoted ":" ++ (second ++ (quoted "." ++ fraction)))))
  pub hours : Digits 2 hour
  pub minutes : Digits 2 minute
  pub seconds : Digits 2 second
  pub fractions : AllDigits fraction
  pub long : 6 ≤ length fraction
  pub short : length fraction ≤ 9
  pub worth : x ≡ record { hour = decimal_value hour; minute = decimal_value minute; second = decimal_value second; nanosecond = decimal_value fraction * 10 ^ (9 - length fraction) }

-- a moment of a day: hours 00 to 23, minutes and seconds 00 to 59
pub record TimeOfDay (x : Time) : Type 0 where
  pub hours : x.hour ≤ 23
  pub minutes : x.minute ≤ 59
  pub seconds : x.second ≤ 59

-- a time: such characters that say a moment of a day
pub record TimeText (x : Time) (f : List ℕ) : Type 0 where
  pub form : TimeForm x f
  pub valid : TimeOfDay x

-- n characters 0
abbrev pub zeros : ℕ → List ℕ
zeros n = replicate n 48

-- KIND, CODES, QUALITY
-- a capital letter, byte 65 to 90, as a small one
abbrev pub lowered : List ℕ → List ℕ
lowered [] = []
lowered (b ∷ l) = (if is_between 65 90 b then b + 32 else b) ∷ lowered l

-- the words of the kinds
abbrev pub kind_word : Kind → List ℕ
kind_word Ascii = quoted "ascii"
kind_word Binary = quoted "binary"
kind_word Binary32 = quoted "binary32"

-- a kind's word, in any case (so it has 5 to 8 characters)
abbrev pub KindWord : Kind → List ℕ → Type 0
KindWord k f = lowered f ≡ kind_word k

-- minutes after an h; no h where there are none
abbrev pub with_h : List ℕ → List ℕ
with_h [] = []
with_h (b ∷ l) = quoted "h" ++ b ∷ l

-- leading spaces, an optional sign, hours in one or two digits, then nothing or h and two digits, at most 6 characters in all
pub record CodeForm (sign : Sign) (hours minutes : ℕ) (f : List ℕ) : Type 0 where
  pub leading : ℕ
  pub hour : List ℕ
  pub minute : List ℕ
  pub text : f ≡ spaces leading ++ (sign_text sign ++ (hour ++ with_h minute))
  pub hour_digits : Digits 1 hour ⊎ Digits 2 hour
  pub minute_digits : (minute ≡ []) ⊎ Digits 2 minute
  pub short : length f ≤ 6
  pub hour_worth : hours ≡ decimal_value hour
  pub minute_worth : minutes ≡ decimal_value minute

-- a time code: such characters, hours 0 to 14 and minutes 0 to 59; it says z minutes
pub record CodeField (z : ℤ) (f : List ℕ) : Type 0 where
  pub sign : Sign
  pub hours : ℕ
  pub minutes : ℕ
  pub form : CodeForm sign hours minutes f
  pub hours_in : hours ≤ 14
  pub minutes_in : minutes ≤ 59
  pub worth : z ≡ signed sign (60 * hours + minutes)

-- the local code x: leading spaces and a small x, at most 6 characters in all
pub record XField (f : List ℕ) : Type 0 where
  pub leading : ℕ
  pub text : f ≡ spaces leading ++ quoted "x"
  pub short : length f ≤ 6

-- a hexadecimal digit in either case, worth v: 0 is byte 48, A byte 65, a byte 97
abbrev pub HexDigit : ℕ → ℕ → Type 0
HexDigit v b = ((b ≡ 48 + v) × (v ≤ 9)) ⊎ (((b ≡ 55 + v) ⊎ (b ≡ 87 + v)) × (10 ≤ v) × (v ≤ 15))

-- time quality: one hexadecimal digit, of 0 to 9, A, B and F; it says q
pub record QualityField (q : ℕ) (f : List ℕ) : Type 0 where
  pub digit : ℕ
  pub text : f ≡ digit ∷ []
  pub worth : HexDigit q digit
  pub known : (q ≤ 9) ⊎ ((q ≡ 10) ⊎ ((q ≡ 11) ⊎ (q ≡ 15)))

-- leap second code: one digit, 0 to 3; it says p
pub record LeapField (p : ℕ) (f : List ℕ) : Type 0 where
  pub text : f ≡ (48 + p) ∷ []
  pub known : p ≤ 3
