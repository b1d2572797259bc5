-- `decimal_length` meets its contract. The loop's invariant: what is left of v has as many digits as v, less those that were counted off.
use mathlib.Core.Path.{refl}
use native.Mathlib.Omega.{arith}
use lib.ListN.{length-append}
use Rattle.numerals.proofs.DecimalLaws.{decimal-one, decimal-more}
use Rattle.numerals.proofs.decimal_length.Goals as goal

pub loop-x-init : goal.loop-x-init
loop-x-init c = (omega arith, refl)

pub loop-x-preserved : goal.loop-x-preserved
loop-x-preserved c = (omega arith, rw (c.loop-x.invariant.1, decimal-more c.loop-x.x c.loop-x-test.true, length-append) (omega arith))

pub returns : goal.returns
returns c = let e = rw (decimal-one c.loop-x.x c.loop-x-test.false) at c.loop-x.invariant.1 in omega arith
