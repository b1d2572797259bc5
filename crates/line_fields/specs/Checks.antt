-- The checks that a line's rule is made of, from the left. A line says its values, or refuses with a number and a field.
use Rattle.std.specs.Prelude.{List, ℕ, eqb}
use Rattle.model.specs.declared.Reason.{Reason}
use Rattle.model.specs.Refusals.{numbered}
use Rattle.ground.specs.Said.{Said, says, refuses, must}
use Rattle.text.specs.Fields.{field_count, field_at}
use Rattle.std.specs.Prelude.{Err, Ok, Result}
use Rattle.numerals.specs.declared.FieldError.{FieldError}
use Rattle.line_fields.specs.declared.Fault.{Fault}
use Rattle.line_fields.specs.Faults.{error_number}

-- a refusal's number and field; field 0 is the whole line
abbrev pub fault : ℕ → ℕ → Fault
fault n k = record { reason = numbered n; field = k }

-- 4: a line has so many fields
abbrev pub has_fields : ℕ → List ℕ → Said Fault (Unit {0})
has_fields n l = must (eqb (field_count l) n) (fault 4 0)

-- field k passes its check, or has the check's number
abbrev pub faultless : ℕ → (List ℕ → ℕ) → List ℕ → Said Fault (Unit {0})
faultless k check l = must (eqb (check (field_at k l)) 0) (fault (check (field_at k l)) k)

-- what was read in field k: 5 for its form, 6 for a value that is not allowed
abbrev pub value_at : {A : Type 0} → ℕ → Result A FieldError → Said Fault A
value_at k (Ok v) = says v
value_at k (Err e) = refuses (fault (error_number e) k)

-- field k is fine, or has the number of its check
abbrev pub fine_at : ℕ → Result (Unit {0}) Reason → Result (Unit {0}) Fault
fine_at k (Ok u) = Ok tt
fine_at k (Err r) = Err (record { reason = r; field = k })

-- field k has a number
abbrev pub value : ℕ → (List ℕ → Result ℕ FieldError) → List ℕ → Said Fault ℕ
value k read l = value_at k (read (field_at k l))
