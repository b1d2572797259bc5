-- `ascii_row::read_sample` meets its contract.
use mathlib.Core.Path.{sym, ◌∙◌}
use borrow.Author.Tests.{ne_eqb}
use Rattle.ascii_row.proofs.FieldLaws.{no_number}
use Rattle.ascii_row.proofs.read_sample.Goals as goal
use Rattle.ascii_row.proofs.read_sample.Goals.{In_ok-z}

pub returns-in_err-z : goal.returns-in_err-z
returns-in_err-z c =
    c.from_residual.ensures ∙ sym (no_number c.args.layout c.args.field.now (sym c.read_whole.ensures ∙ c.in_err-z.was) (ne_eqb _ 0 c.if-field-eq0.false))
