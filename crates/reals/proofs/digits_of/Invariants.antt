-- `digits_of` meets its contract. The loop's invariant: the digits before the place are worth v, which has no more digits than they are bytes.
use mathlib.Core.Path.{◌≡◌}
use Prim.Native.Nat.{◌<◌, ◌^◌}
use lib.ListN.{drop}
use Rattle.reals.specs.Exact.{digits_of}
use Rattle.reals.proofs.digits_of.Given as goal

abbrev pub invariant-loop-b : goal.invariant-loop-b
invariant-loop-b l = (l.v < 10 ^ l.b-index) × (digits_of 0 l.m ≡ digits_of l.v (drop l.b-index l.m))
