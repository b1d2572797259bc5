-- What is wrong with a field, as the paper's number: 0 where it is fine, 5 for its form, 6 for a value that is not allowed.
use Rattle.std.specs.Prelude.{Bool, List, ℕ, eqb, length, if◌then◌else◌}
use Rattle.model.specs.declared.Reason.{Reason}
use Rattle.model.specs.Refusals.{numbered}
use Rattle.std.specs.Prelude.{Err, None, Ok, Option, Result, Some}
use Rattle.reals.specs.declared.Sign.{Sign}
use Rattle.numerals.specs.declared.FieldError.{FieldError}
use Rattle.numerals.specs.declared.FieldError.TheVariants.{Form, Range}
use Rattle.reals.specs.declared.Sign.TheVariants.{Above, Below, Zero}
use Rattle.numerals.specs.Counts.{length_in, read_count}
use Rattle.fields.specs.Fields.{read_state, read_side}
use Rattle.reals.specs.Forms.{read_real}

-- what is wrong with a field by its number: nothing where it is 0
abbrev pub checked : ℕ → Result (Unit {0}) Reason
checked n = if eqb n 0 then Ok tt else Err (numbered n)

-- 5 for a wrong form, 6 for a value that is not allowed
abbrev pub error_number : FieldError → ℕ
error_number Form = 5
error_number Range = 6

-- the number of what was read in a field
abbrev pub number_of_read : {A : Type 0} → Result A FieldError → ℕ
number_of_read (Ok v) = 0
number_of_read (Err e) = error_number e

-- a text of least to most characters
unfoldable pub text_fault : ℕ → ℕ → List ℕ → ℕ
text_fault least most l = if length_in least most l then 0 else 5

-- an index that is a count must be i
abbrev pub index_is : ℕ → Option ℕ → ℕ
index_is i None = 5
index_is i (Some v) = if eqb v i then 0 else 7

-- an index of 1 to 6 digits, which is i
unfoldable pub index_fault : ℕ → List ℕ → ℕ
index_fault i l = index_is i (read_count 1 6 l)

-- any real will do
abbrev pub any_real : Option Sign → ℕ
any_real (Some Below) = 0
any_real (Some Zero) = 0
any_real (Some Above) = 0
any_real None = 5

-- a real of 1 to 32 characters
unfoldable pub real_fault : List ℕ → ℕ
real_fault l = any_real (read_real 1 32 l)

-- empty, or a real of 1 to 32 characters
unfoldable pub frequency_fault : List ℕ → ℕ
frequency_fault l = if eqb (length l) 0 then 0 else real_fault l

-- a real must be above zero
abbrev pub above_zero : Option Sign → ℕ
above_zero (Some Below) = 6
above_zero (Some Zero) = 6
above_zero (Some Above) = 0
above_zero None = 5

-- a real of 1 to 32 characters, above zero
unfoldable pub above_fault : List ℕ → ℕ
above_fault l = above_zero (read_real 1 32 l)

-- a real must be zero
abbrev pub at_zero : Option Sign → ℕ
at_zero (Some Below) = 6
at_zero (Some Zero) = 0
at_zero (Some Above) = 6
at_zero None = 5

-- a real of 1 to 32 characters, which is zero
unfoldable pub zero_fault : List ℕ → ℕ
zero_fault l = at_zero (read_real 1 32 l)

-- a rate: zero where there are no rates, and else above zero
abbrev pub rate_fault : Bool → List ℕ → ℕ
rate_fault none l = if none then zero_fault l else above_fault l

-- whether primary or secondary values are meant: p P s S
abbrev pub side_fault : List ℕ → ℕ
side_fault l = number_of_read (read_side l)

-- the normal state: 0 or 1
abbrev pub state_fault : List ℕ → ℕ
state_fault l = number_of_read (read_state l)
