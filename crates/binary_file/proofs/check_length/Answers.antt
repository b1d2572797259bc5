-- `binary_file::check_length` meets its contract.
use Prim.Native.Nat.{◌*◌}
use native.Mathlib.Nat.{mul-le-mul}
use native.Mathlib.Omega.{arith}
use borrow.Author.Tests.{eq-eqb, ne_eqb}
use lib.ListN.{length}
use Rattle.binary_row.proofs.SizeLaws.{size-le}
use Rattle.binary_file.proofs.check_length.Goals as goal

pub overflow_mul-rows : goal.overflow_mul-rows
overflow_mul-rows c =
    rw c.row_size.ensures (omega (arith, mul-le-mul c.requires.rows (size-le c.args.layout c.requires)))

pub returns-then-data-rows : goal.returns-then-data-rows
returns-then-data-rows c =
    rw (c.refused.ensures, ← c.row_size.ensures, ne_eqb (length c.args.«data».now) (c.args.layout.rows * c.row_size.result) (λ e. omega arith))

pub returns : goal.returns
returns c = rw (← c.row_size.ensures, eq-eqb _ _ c.if-data-rows.false)
