-- `ascii_row::time_in` meets its contract.
use Rattle.ascii_row.proofs.FieldLaws.{timestamp-told}
use mathlib.Core.Path.{◌∙◌, sym}
use Rattle.ascii_row.proofs.time_in.Goals as goal

pub overflow_cast-result : goal.overflow_cast-result
overflow_cast-result c =
    record { fits = (timestamp-told c.args.field.now c.in-Some.v (sym c.read_timestamp.ensures ∙ c.in-Some.is)).1 }
