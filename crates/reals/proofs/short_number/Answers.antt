-- `short_number` meets its contract.
use mathlib.Core.Path.{sym, ◌∙◌}
use native.Mathlib.Omega.{arith}
use Rattle.numerals.proofs.CountLaws.{length-bounds}
use Rattle.reals.proofs.short_number.Goals as goal

pub number_of-requires : goal.number_of-requires
number_of-requires c = omega (arith, (length-bounds 1 3 _ (sym c.length_in.ensures ∙ c.if-not-length_in.false)).1)
