-- `text::first_field` meets its contract.
-- Assumes nothing.
use Rattle.text.proofs.FieldLaws.{field-within}
use lib.Seq.{length-take-le}
use mathlib.Core.Path.{sym}
use Rattle.text.proofs.first_field.Goals as goal

pub slice_bounds-result-end : goal.slice_bounds-result-end
slice_bounds-result-end c = sym (length-take-le _ _ (rw c.field_length-m.ensures (field-within c.args.line.now)))

pub returns : goal.returns
returns c = rw c.field_length-m.ensures
