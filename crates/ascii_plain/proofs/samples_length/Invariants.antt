-- `ascii_plain::samples_length` meets its contract. The loop's invariant: n is the length of the samples so far, at most 12 each.
use mathlib.Core.Path.{◌≡◌}
use Prim.Native.Nat.{◌≤◌, ◌*◌}
use Rattle.ascii_plain.specs.Inner.{samples_length}
use Rattle.ascii_plain.proofs.samples_length.Given as goal

abbrev pub invariant-loop-z : goal.invariant-loop-z
invariant-loop-z l = (l.n ≤ 12 * l.z-index) × (l.n ≡ samples_length l.layout l.zs l.z-index)
