-- `change::write_rows` meets its contract. The loop's invariant: t is what follows i rows, and the slice begins with the bytes of i rows, which end at from; the rest is as it was.
use Rattle.change_length.specs.Inner.{rows_length, rows_bytes}
use Rattle.rows.specs.Inner.{rest_of}
use Rattle.data.specs.Files.{row_at}
use lib.ListN.{length, drop}
use Prim.Native.Nat.{◌≤◌}
use mathlib.Core.List.{◌++◌}
use mathlib.Core.Path.{◌≡◌}
use Rattle.change.proofs.write_rows.Given as goal

abbrev pub invariant-loop-i : goal.invariant-loop-i
invariant-loop-i l = (length l.t ≤ length l.data) × (l.t ≡ rest_of l.layout l.data l.i)
    × (l.from ≡ rows_length l.new (row_at l.layout l.data) l.i) × (l.d ≡ rows_bytes l.new (row_at l.layout l.data) l.i ++ drop l.from l.initial.d)
