-- `change_length::settle` meets its contract: 16 at the misfit that is known, or the length of the rows and the end mark, which is short.
use Rattle.change_length.proofs.TallyLaws.{mark-le}
use Rattle.change_length.specs.Inner.{settle}
use native.Mathlib.Omega.{arith}
use Rattle.change_length.proofs.settle.Goals as goal

pub overflow_add-result : goal.overflow_add-result
overflow_add-result c = rw c.mark_length.ensures (omega (arith, mark-le c.args.new))

pub returns : goal.returns
unfolding settle
returns c = (rw (c.in_default.is, c.mark_length.ensures), rw c.mark_length.ensures (omega (arith, mark-le c.args.new)))
