-- `put_samples` meets its contract. The loop's invariant: the samples of the channels before channel i are put.
use Prim.Native.Nat.{◌+◌, ◌-◌, ◌*◌, ◌≤◌}
use Rattle.list_lines.specs.Lines.{spaced_samples}
use Rattle.pieces.specs.Inner.{Put}
use Rattle.list_lines.proofs.put_samples.Given as goal

abbrev pub invariant-loop-i : goal.invariant-loop-i
invariant-loop-i l = (l.i ≤ l.a + 1) × (l.to ≤ l.n + 12 * (l.i - 1)) × Put l.initial.out l.n (spaced_samples l.row (l.i - 1)) l.out l.to
