-- `ascii_plain::length_by` meets its contract: the parts together are far from the end of the numbers.
use Rattle.ascii_plain.proofs.LengthLaws.{decimal-short}
use Rattle.ascii_plain.specs.Inner.{length_by}
use native.Mathlib.Omega.{arith}
use Prim.Native.Nat.{◌+◌, ◌*◌, ◌≤◌}
use Rattle.ascii_plain.proofs.length_by.Goals as goal
use Rattle.ascii_plain.proofs.length_by.Goals.{After-samples_length}

-- the parts together
short : (c : After-samples_length) → c.head_length.result + (c.samples_length.result + (2 * c.args.layout.statuses + 2)) ≤ 2048
short c =
    let s = c.requires.0 in
    omega (arith, c.samples_length.ensures.upper_bound, c.head_length.ensures, decimal-short c.args.n (omega arith), decimal-short c.args.time (omega arith))

pub overflow_add-result-3 : goal.overflow_add-result-3
overflow_add-result-3 c = omega (arith, short c)

pub returns : goal.returns
unfolding length_by
returns c = record { value = rw (c.head_length.ensures, c.samples_length.ensures.value); upper_bound = short c }
