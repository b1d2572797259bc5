-- `ascii_plain::put_statuses` meets its contract. The loop's invariant: the slice begins with i statuses, and the rest is as it was.
use mathlib.Core.Path.{◌≡◌}
use mathlib.Core.List.{◌++◌}
use Prim.Native.Nat.{◌*◌}
use lib.ListN.{drop}
use Rattle.ascii_plain.specs.Rows.{statuses_text}
use Rattle.ascii_plain.proofs.put_statuses.Given as goal

abbrev pub invariant-loop-i : goal.invariant-loop-i
invariant-loop-i l = l.d ≡ statuses_text l.i l.s ++ drop (l.i * 2) l.initial.d
