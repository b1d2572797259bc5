-- `exact_of` meets its contract.
use native.Mathlib.Omega.{arith}
use lib.ListN.{length-take}
use Rattle.reals.proofs.FormLaws.{mantissa-within}
use Rattle.reals.proofs.LimitLaws.{places-within}
use Rattle.reals.proofs.exact_of.Goals as goal

pub slice_bounds-digits_of-end : goal.slice_bounds-digits_of-end
slice_bounds-digits_of-end c = rw length-take (omega (arith, c.mantissa_length-m.ensures, mantissa-within c.args.s.now))

pub overflow_sub-result : goal.overflow_sub-result
overflow_sub-result c = omega (arith, c.decimal_places-p.ensures, places-within c.args.s.now, c.requires)
