-- `ascii_walk::samples_end` meets its contract. The loop's invariant: as many samples are passed as it had turns.
use Prim.Native.Nat.{◌<◌}
use lib.ListN.{length}
use Rattle.ascii_walk.specs.Inner.{Passed}
use Rattle.ascii_walk.proofs.samples_end.Given as goal

abbrev pub invariant-loop : goal.invariant-loop
invariant-loop l = (l.i < length l.s) × Passed l.layout l.s 2 l.at l.counter l.i
