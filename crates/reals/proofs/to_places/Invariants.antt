-- `to_places` meets its contract. The loop's invariant: w times the power of ten that is left is v * 10 ^ k.
use mathlib.Core.Path.{◌≡◌}
use Prim.Native.Nat.{◌*◌, ◌^◌, ◌-◌}
use Rattle.reals.proofs.to_places.Given as goal

abbrev pub invariant-loop : goal.invariant-loop
invariant-loop l = l.w * 10 ^ (l.k - l.counter) ≡ l.v * 10 ^ l.k
