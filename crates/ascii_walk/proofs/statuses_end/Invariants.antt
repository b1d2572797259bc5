-- `ascii_walk::statuses_end` meets its contract. The loop's invariant: k statuses are passed, two bytes each.
use Prim.Native.Nat.{◌+◌, ◌*◌}
use Rattle.model.specs.declared.Layout.{Layout}
use Rattle.ascii_walk.specs.Inner.{Passed}
use Rattle.ascii_walk.proofs.statuses_end.Given as goal

abbrev pub invariant-loop-k : goal.invariant-loop-k
invariant-loop-k l = (l' : Layout) → Passed l' l.s (2 + l'.analogs) l.at l.k (l.at + 2 * l.k)
