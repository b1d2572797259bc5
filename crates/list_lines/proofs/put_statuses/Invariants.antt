-- `put_statuses` meets its contract. The loop's invariant: the statuses of the channels before channel i are put.
use Prim.Native.Nat.{◌+◌, ◌-◌, ◌*◌, ◌≤◌}
use Rattle.list_lines.specs.Lines.{spaced_statuses}
use Rattle.pieces.specs.Inner.{Put}
use Rattle.list_lines.proofs.put_statuses.Given as goal

abbrev pub invariant-loop-i : goal.invariant-loop-i
invariant-loop-i l = (l.i ≤ l.d + 1) × (l.to ≤ l.n + 2 * (l.i - 1)) × Put l.initial.out l.n (spaced_statuses l.row (l.i - 1)) l.out l.to
