-- `put_count` meets its contract: the decimal fills the part that is its length.
use mathlib.Core.Path.{◌≡◌}
use Prim.Native.Nat.{◌+◌, ◌≤◌}
use native.Mathlib.Omega.{arith}
use lib.ListN.{length}
use Rattle.numerals.specs.Decimals.{decimal}
use Rattle.ascii_plain.proofs.LengthLaws.{decimal-short}
use Rattle.pieces.proofs.Laws.{put-part}
use Rattle.list_lines.proofs.put_count.Goals as goal
use Rattle.list_lines.proofs.put_count.Goals.{After-decimal_length}

-- how long the decimal is
short : (c : After-decimal_length) → (c.decimal_length.result ≡ length (decimal c.args.v)) × (c.decimal_length.result ≤ 10)
short c = (c.decimal_length.ensures, omega (arith, c.decimal_length.ensures, decimal-short c.args.v c.ranges.v.fits))

pub overflow_add-to : goal.overflow_add-to
overflow_add-to c = omega (arith, (short c).1)

pub slice_bounds-put_decimal-end : goal.slice_bounds-put_decimal-end
slice_bounds-put_decimal-end c = omega (arith, (short c).1)

pub returns : goal.returns
returns c =
    let e = short (goal.at.returns c).After-decimal_length in
    let y : c.put_decimal.new.d ≡ decimal c.args.v = c.put_decimal.ensures in
    record { put = rw y (put-part c.args.out.now (decimal c.args.v) c.args.n (c.args.n + c.decimal_length.result) (omega arith) (omega arith)); upper_bound = omega arith }
