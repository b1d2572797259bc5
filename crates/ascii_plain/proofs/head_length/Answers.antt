-- `ascii_plain::head_length` meets its contract: each number has at most 10 digits.
use native.Mathlib.Omega.{arith}
use Rattle.ascii_plain.proofs.LengthLaws.{decimal-short}
use Rattle.ascii_plain.proofs.head_length.Goals as goal

pub overflow_add-result : goal.overflow_add-result
overflow_add-result c = omega (arith, decimal-short c.args.time (omega arith), c.decimal_length-2.ensures)

pub overflow_add-result-2 : goal.overflow_add-result-2
overflow_add-result-2 c =
    omega (arith, decimal-short c.args.n (omega arith), decimal-short c.args.time (omega arith), c.decimal_length.ensures, c.decimal_length-2.ensures)
