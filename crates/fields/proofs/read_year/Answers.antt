-- `read_year` meets its contract.
use mathlib.Core.Path.{sym, ◌∙◌}
use Rattle.numerals.proofs.CountLaws.{length-bounds}
use native.Mathlib.Omega.{arith}
use Rattle.fields.proofs.read_year.Goals as goal

pub number_of-requires : goal.number_of-requires
number_of-requires c = omega (arith, length-bounds 4 4 c.args.field.now (sym c.length_in.ensures ∙ c.if-not-length_in.false))
