-- `text::field_at` meets its contract.
-- Assumes nothing.
use Rattle.text.proofs.FieldLaws.{field-first}
use Rattle.text.specs.Fields.{field_at}
use native.Mathlib.Omega.{arith}
use Rattle.text.proofs.field_at.Goals as goal

pub returns-then-i-lt1 : goal.returns-then-i-lt1
returns-then-i-lt1 c = rw (field-first c.args.i _ (omega arith)) c.first_field.ensures

pub returns : goal.returns
unfolding field_at
returns c = rw (c.first_field-2.ensures, c.after_fields.ensures)
