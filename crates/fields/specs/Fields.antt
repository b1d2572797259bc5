-- What a field says where it may be one of a few things.
use Rattle.std.specs.Prelude.{Bool, true, false, not, List, [], ◌∷◌, ℕ, ◌+◌, ◌-◌, eqb, ltb, length, get_or, take, if◌then◌else◌}
use Rattle.ground.specs.Quoted.{quoted}
use Rattle.std.specs.Prelude.{Err, None, Ok, Option, Result, Some}
use Rattle.model.specs.declared.Kind.{Kind}
use Rattle.numerals.specs.declared.FieldError.{FieldError}
use Rattle.numerals.specs.declared.FieldError.TheVariants.{Form, Range}
use Rattle.numerals.specs.Counts.{length_in, number_of, read_count}
use Rattle.model.specs.declared.Kind.TheVariants.{Ascii, Binary, Binary32}

-- a count that must be low to high
unfoldable pub in_range : ℕ → ℕ → Option ℕ → Result ℕ FieldError
in_range low high None = Err Form
in_range low high (Some v) = if ltb v low then Err Range else if ltb high v then Err Range else Ok v

-- a count of 1 to `most` characters, low to high
unfoldable pub read_count_in : ℕ → ℕ → ℕ → List ℕ → Result ℕ FieldError
read_count_in most low high l = in_range low high (read_count 1 most l)

-- a count of 1 to 6 characters and then a letter, 0 to high
unfoldable pub read_lettered : ℕ → ℕ → List ℕ → Result ℕ FieldError
read_lettered letter high l =
    if not (length_in 2 7 l) then Err Form
    else if not (eqb (get_or l (length l - 1) 0) letter) then Err Form
    else read_count_in 6 0 high (take (length l - 1) l)

-- a year: four digits
unfoldable pub read_year : List ℕ → Option ℕ
read_year l = if not (length_in 4 4 l) then None else number_of l

-- b is one of the characters
abbrev pub is_among : ℕ → List ℕ → Bool
is_among b [] = false
is_among b (a ∷ l) = if eqb a b then true else is_among b l

-- one character, and one of those allowed
unfoldable pub read_one_of : List ℕ → List ℕ → Result ℕ FieldError
read_one_of allowed l =
    if not (eqb (length l) 1) then Err Form
    else if is_among (get_or l 0 0) allowed then Ok (get_or l 0 0)
    else Err Range

-- what a digit is worth, a hexadecimal one in either case
unfoldable pub digit_value : ℕ → ℕ
digit_value b = if ltb b 58 then b - 48 else if ltb b 71 then b - 55 else b - 87

-- a digit that was read, as its value
abbrev pub valued : Result ℕ FieldError → Result ℕ FieldError
valued (Ok b) = Ok (digit_value b)
valued (Err Form) = Err Form
valued (Err Range) = Err Range

-- one digit, and one of those allowed
unfoldable pub read_digit_of : List ℕ → List ℕ → Result ℕ FieldError
read_digit_of allowed l = valued (read_one_of allowed l)

-- the normal state of a status channel: 0 or 1
unfoldable pub read_state : List ℕ → Result ℕ FieldError
read_state l = read_digit_of (quoted "01") l

-- whether primary or secondary values are meant: p P s S
unfoldable pub read_side : List ℕ → Result ℕ FieldError
read_side l = read_one_of (quoted "pPsS") l

-- time quality: a hexadecimal digit of 0 to 9, A, B, F in either case
unfoldable pub read_quality : List ℕ → Result ℕ FieldError
read_quality l = read_digit_of (quoted "0123456789ABFabf") l

-- leap second code: 0 to 3
unfoldable pub read_leap : List ℕ → Result ℕ FieldError
read_leap l = read_digit_of (quoted "0123") l

-- a capital letter as a small one; any other character as it is
unfoldable pub small : ℕ → ℕ
small b = if ltb b 65 then b else if ltb 90 b then b else b + 32

-- a word in any case, where w is the word in small letters
abbrev pub same_word : List ℕ → List ℕ → Bool
same_word [] [] = true
same_word [] (b ∷ l) = false
same_word (a ∷ w) [] = false
same_word (a ∷ w) (b ∷ l) = if eqb (small b) a then same_word w l else false

-- the kind of data file, by its word of 5 to 8 characters in any case
unfoldable pub read_kind : List ℕ → Result Kind FieldError
read_kind l =
    if not (length_in 5 8 l) then Err Form
    else if same_word (quoted "ascii") l then Ok Ascii
    else if same_word (quoted "binary") l then Ok Binary
    else if same_word (quoted "binary32") l then Ok Binary32
    else Err Range
