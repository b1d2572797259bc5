-- `second_of_day` meets its contract.
use native.Mathlib.Omega.{arith}
use Rattle.clock.proofs.TimeLaws.{time-bounds}
use Rattle.clock.proofs.times.second_of_day.Goals as goal

pub overflow_mul-result : goal.overflow_mul-result
overflow_mul-result c = omega (arith, time-bounds c.args.time c.requires)

pub overflow_mul-result-2 : goal.overflow_mul-result-2
overflow_mul-result-2 c = omega (arith, time-bounds c.args.time c.requires)

pub overflow_add-result : goal.overflow_add-result
overflow_add-result c = omega (arith, time-bounds c.args.time c.requires)

pub overflow_add-result-2 : goal.overflow_add-result-2
overflow_add-result-2 c = omega (arith, time-bounds c.args.time c.requires)
