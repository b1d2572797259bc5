-- Patterns of characters, the digits at a place, and a number between two others.
use Rattle.std.specs.Prelude.{ℕ, Bool, true, false, ◌&&◌, List, [], ◌∷◌, eqb, leb, if◌then◌else◌}
use Rattle.ground.specs.Tables.{part}
use Rattle.numerals.specs.Counts.{is_digit, number_of, count_in}

-- a character fits one of a pattern: d stands for a digit, any other for itself
unfoldable pub fits_character : ℕ → ℕ → Bool
fits_character p b = if eqb p 100 then is_digit b else eqb b p

-- characters fit a pattern: as many, and each fits at its place
unfoldable pub fits_pattern : List ℕ → List ℕ → Bool
fits_pattern [] [] = true
fits_pattern [] (b ∷ l) = false
fits_pattern (p ∷ ps) [] = false
fits_pattern (p ∷ ps) (b ∷ l) = fits_character p b && fits_pattern ps l

-- the value of the digits from place f on and before place t; 0 where they are not all digits
unfoldable pub digits_at : ℕ → ℕ → List ℕ → ℕ
digits_at f t l = count_in (number_of (part f t l))

-- a number of least to most
unfoldable pub between : ℕ → ℕ → ℕ → Bool
between least most n = leb least n && leb n most
