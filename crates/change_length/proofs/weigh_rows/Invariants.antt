-- `change_length::weigh_rows` meets its contract. The loop's invariant: t is what follows i rows, the check of all rows is that of those that are left, and the tally is that of i rows.
use Rattle.model.specs.Layouts.{in_kind}
use Rattle.change_length.specs.Inner.{tally_of}
use Rattle.rows.specs.Inner.{rest_of, walk_fine}
use Rattle.data.specs.Files.{row_at}
use lib.ListN.{length}
use Prim.Native.Nat.{◌≤◌, ◌+◌, ◌-◌, ◌*◌}
use mathlib.Core.Path.{◌≡◌}
use Rattle.change_length.proofs.weigh_rows.Given as goal

abbrev pub invariant-loop-i : goal.invariant-loop-i
invariant-loop-i l = (length l.t ≤ length l.data) × (l.t ≡ rest_of l.layout l.data l.i)
    × (walk_fine l.layout l.data 1 l.rows ≡ walk_fine l.layout l.t (l.i + 1) (l.rows - l.i))
    × (l.tally ≡ tally_of (in_kind l.kind l.layout) (row_at l.layout l.data) l.i) × (l.tally.length ≤ 2048 * l.i)
