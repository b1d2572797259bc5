-- `recode_samples::strays` meets its contract. The loop's invariant: n counts those of the first i samples.
use mathlib.Core.Path.{◌≡◌}
use Rattle.recode_samples.specs.Inner.{strays_of}
use Prim.Native.Nat.{◌≤◌}
use Rattle.recode_samples.proofs.strays.Given as goal

abbrev pub invariant-loop-i : goal.invariant-loop-i
invariant-loop-i l = (l.n ≤ l.i) × (l.n ≡ strays_of l.b l.i)
