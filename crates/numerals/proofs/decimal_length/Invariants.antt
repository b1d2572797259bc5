-- `decimal_length` meets its contract. The loop's invariant: what is left of v has as many digits as v, less those that were counted off.
use mathlib.Core.Path.{◌≡◌}
use Prim.Native.Nat.{◌≤◌, ◌+◌}
use lib.ListN.{length}
use Rattle.numerals.specs.Decimals.{decimal}
use Rattle.numerals.proofs.decimal_length.Given as goal

abbrev pub invariant-loop-x : goal.invariant-loop-x
invariant-loop-x l = (l.n + l.x ≤ 1 + l.v) × (1 + length (decimal l.v) ≡ l.n + length (decimal l.x))

abbrev pub decreases-loop-x : goal.decreases-loop-x
decreases-loop-x l = l.x
