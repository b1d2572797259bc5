-- NOTHING TO BELIEVE HERE: what the functions say that read a file, so that what is handed on is a part of the room; what a file holds no contract can say.
-- What a reader has left and what a writer holds is said where it is known, as of bytes in memory.
use Rattle.std.specs.Prelude.{◌≡◌, ◌≢◌, ◌⊎◌, ℕ, ◌≤◌, ◌<◌, List, ◌++◌, length, take, codes, Option, Some, None}
use Rattle.std.specs.Io.KnownBytes.{Consumes, IsAtEnd}
use Rattle.std.specs.declared.env.FillError.{FillError}
use Rattle.std.specs.declared.env.FillError.TheVariants.{NotPresent, TooLong}

-- no more bytes were read than there was room for
abbrev pub Within : ℕ → Option ℕ → Type 0
Within n (Some k) = k ≤ n
Within n None = Unit {0}

-- the first n bytes of the room are the reader's next ones, and if there is room left they are all of them
abbrev pub FirstBytes : Option (List ℕ) → Option (List ℕ) → List ℕ → ℕ → Type 0
FirstBytes old new room n = Consumes old new (take n room) × (n < length room → IsAtEnd new)

-- the line that says why there is no listing
abbrev pub fault_line : List ℕ → List ℕ → List ℕ → List ℕ
fault_line what path why = what ++ path ++ codes ": " ++ why ++ codes "\n"

-- the system's number of the error that an argument can't be had
abbrev pub error_number : FillError → ℕ
error_number NotPresent = 22
error_number TooLong = 36

-- what stands between the system's words for an error and its number
abbrev pub number_mark : List ℕ
number_mark = codes " (os error "

-- words are what stands before the number of a message, or all of a message that has none
abbrev pub WithoutNumber : List ℕ → List ℕ → Type 0
WithoutNumber message words = ((rest : List ℕ) × (message ≡ words ++ (number_mark ++ rest))) ⊎ ((words ≡ message) × ((xs ys : List ℕ) → message ≢ xs ++ (number_mark ++ ys)))
