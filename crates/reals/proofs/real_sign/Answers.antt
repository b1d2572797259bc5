-- `real_sign` meets its contract.
use native.Mathlib.Omega.{arith}
use lib.ListN.{length-take}
use Rattle.reals.proofs.FormLaws.{mantissa-within}
use Rattle.reals.proofs.real_sign.Goals as goal

pub slice_bounds-is_zero-end : goal.slice_bounds-is_zero-end
slice_bounds-is_zero-end c = rw length-take (omega (arith, c.mantissa_length-m.ensures, mantissa-within c.args.s.now))
