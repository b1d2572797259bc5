-- What the checks of a line refuse with: each number at its place.
--     FieldNumber                       the numbers of a field's check, 0 where it is fine
--     FaultPlaced                       4 for the whole line, 5 to 8 at a field, counted from 1
--     text-check, index-check, real-check, frequency-check, above-check, zero-check, rate-check, value-check     each check has such a number
--     Ruled                             a rule that refuses only so
--     has-fields-ruled, faultless-ruled, agrees-ruled, value-ruled     the checks that a line is made of
--     then-ruled, bind-ruled            and what is made of two of them
--     fault-tabled                      the reason of a refusal is one of the 17
--     fault-numbered                    it has a number, and it is not 0
--     checked-tabled, error-tabled, value-tabled     the reason that a field is refused with, by its check's number or by what was read, at any field, is one of the 17
-- Assumes nothing.
use mathlib.Core.Bool.{Bool, true, false}
use mathlib.Core.List.{List}
use Prim.Native.Nat.{ℕ, ◌≤◌}
use lib.Dec.{eqb}
use lib.ListN.{length}
use Rattle.ground.specs.Said.{Said, ◌>>=◌, ◌>>◌, must, answer_said}
use Rattle.ground.proofs.Cases.{on_test}
use Rattle.ground.proofs.RefusalLaws.{RefusesOnly, only-must, only_then, only-bind}
use Rattle.text.specs.Fields.{field_count, field_at}
use Rattle.std.proofs.Common.{Err, None, Ok, Option, Result, Some}
use Rattle.reals.specs.declared.Sign.{Sign}
use Rattle.numerals.specs.declared.FieldError.{FieldError}
use Rattle.numerals.specs.declared.FieldError.TheVariants.{Form, Range}
use Rattle.reals.specs.declared.Sign.TheVariants.{Above, Below, Zero}
use Rattle.numerals.specs.Counts.{length_in, read_count}
use Rattle.reals.specs.Forms.{read_real}
use Rattle.line_fields.specs.declared.Fault.{Fault}
use Rattle.line_fields.specs.Faults.{checked, error_number, number_of_read, text_fault, index_is, index_fault, any_real, real_fault, frequency_fault, above_zero, above_fault, at_zero, zero_fault, rate_fault}
use Rattle.line_fields.specs.Checks.{fault, has_fields, faultless, value_at}
use Rattle.model.specs.Refusals.{numbered, reason_number}
use Rattle.model.proofs.NumberLaws.{Tabled, tabled-number}
use Rattle.std.proofs.Common.{◌≡◌, arith}

-- a field's number: 0 where it is fine
pub data FieldNumber : ℕ → Type 0 where
  fine-field : FieldNumber 0
  of-form : FieldNumber 5
  of_range : FieldNumber 6
  of-agreement : FieldNumber 7

-- a line's refusal: the number of fields for the whole line, the others at a field
pub data FaultPlaced : Fault → Type 0 where
  whole : FaultPlaced (fault 4 0)
  form : (k : ℕ) → 1 ≤ k → FaultPlaced (fault 5 k)
  range : (k : ℕ) → 1 ≤ k → FaultPlaced (fault 6 k)
  agreement : (k : ℕ) → 1 ≤ k → FaultPlaced (fault 7 k)
  year : (k : ℕ) → 1 ≤ k → FaultPlaced (fault 8 k)

-- The numbers of the checks of single fields
pub text-check : (least most : ℕ) (f : List ℕ) → FieldNumber (text_fault least most f)
unfolding text_fault
text-check least most f = on_test (length_in least most f) (λ e. rw e fine-field) (λ e. rw e of-form)

pub index-check : (i : ℕ) (f : List ℕ) → FieldNumber (index_fault i f)
unfolding index_fault
index-check i f = go (read_count 1 6 f)
  where
    go : (v : Option ℕ) → FieldNumber (index_is i v)
    go None = of-form
    go (Some v) = on_test (eqb v i) (λ e. rw e fine-field) (λ e. rw e of-agreement)

pub real-check : (f : List ℕ) → FieldNumber (real_fault f)
unfolding real_fault
real-check f = go (read_real 1 32 f)
  where
    go : (v : Option Sign) → FieldNumber (any_real v)
    go (Some Below) = fine-field
    go (Some Zero) = fine-field
    go (Some Above) = fine-field
    go None = of-form

pub frequency-check : (f : List ℕ) → FieldNumber (frequency_fault f)
unfolding frequency_fault
frequency-check f = on_test (eqb (length f) 0) (λ e. rw e fine-field) (λ e. rw e (real-check f))

pub above-check : (f : List ℕ) → FieldNumber (above_fault f)
unfolding above_fault
above-check f = go (read_real 1 32 f)
  where
    go : (v : Option Sign) → FieldNumber (above_zero v)
    go (Some Below) = of_range
    go (Some Zero) = of_range
    go (Some Above) = fine-field
    go None = of-form

pub zero-check : (f : List ℕ) → FieldNumber (zero_fault f)
unfolding zero_fault
zero-check f = go (read_real 1 32 f)
  where
    go : (v : Option Sign) → FieldNumber (at_zero v)
    go (Some Below) = of_range
    go (Some Zero) = fine-field
    go (Some Above) = of_range
    go None = of-form

pub rate-check : (none : Bool) (f : List ℕ) → FieldNumber (rate_fault none f)
rate-check true f = zero-check f
rate-check false f = above-check f

pub value-check : {A : Type 0} (v : Result A FieldError) → FieldNumber (number_of_read v)
value-check (Ok v) = fine-field
value-check (Err Form) = of-form
value-check (Err Range) = of_range

-- A line refuses only so: FaultPlaced
abbrev pub Ruled : {A : Type 0} → Said Fault A → Type 0
Ruled x = RefusesOnly FaultPlaced x

pub has-fields-ruled : (n : ℕ) (l : List ℕ) → Ruled (has_fields n l)
has-fields-ruled n l = only-must FaultPlaced (eqb (field_count l) n) (fault 4 0) (λ e. whole)

-- one after another
pub then-ruled : {B : Type 0} (x : Said Fault (Unit {0})) (y : Said Fault B) → Ruled x → Ruled y → Ruled (x >> y)
then-ruled x y p q = only_then FaultPlaced x y p (λ e. q)

pub bind-ruled : {A B : Type 0} (x : Said Fault A) (f : A → Said Fault B) → Ruled x → ((a : A) → Ruled (f a)) → Ruled (x >>= f)
bind-ruled x f p q = only-bind FaultPlaced x f p (λ a e. q a)

-- field k, from the first on
module _ (k : ℕ) (h : 1 ≤ k) where
  pub faultless-ruled : (check : List ℕ → ℕ) (l : List ℕ) → ((f : List ℕ) → FieldNumber (check f)) → Ruled (faultless k check l)
  faultless-ruled check l c = go (c (field_at k l))
    where
      go : {v : ℕ} → FieldNumber v → Ruled (must (eqb v 0) (fault v k))
      go fine-field = tt
      go of-form = form k h
      go of_range = range k h
      go of-agreement = agreement k h

  pub agrees-ruled : (t : Bool) → Ruled (must t (fault 7 k))
  agrees-ruled t = only-must FaultPlaced t (fault 7 k) (λ e. agreement k h)

  pub value-ruled : {A : Type 0} (v : Result A FieldError) → Ruled (value_at k v)
  value-ruled (Ok v) = tt
  value-ruled (Err Form) = form k h
  value-ruled (Err Range) = range k h

pub fault-tabled : {f : Fault} → FaultPlaced f → Tabled f.reason
fault-tabled whole = tt
fault-tabled (form k h) = tt
fault-tabled (range k h) = tt
fault-tabled (agreement k h) = tt
fault-tabled (year k h) = tt

pub fault-numbered : {f : Fault} → FaultPlaced f → reason_number f.reason ≡ 0 → ⊥
fault-numbered p z = omega (arith, (tabled-number _ (fault-tabled p)).0)

pub checked-tabled : {n : ℕ} → FieldNumber n → RefusesOnly Tabled (answer_said (checked n))
checked-tabled fine-field = tt
checked-tabled of-form = tt
checked-tabled of_range = tt
checked-tabled of-agreement = tt

pub error-tabled : (e : FieldError) → Tabled (numbered (error_number e))
error-tabled Form = tt
error-tabled Range = tt

pub value-tabled : {A : Type 0} (k : ℕ) (v : Result A FieldError) → RefusesOnly (λ (f : Fault). Tabled f.reason) (value_at k v)
value-tabled k (Ok v) = tt
value-tabled k (Err e) = error-tabled e
