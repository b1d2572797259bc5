-- `ascii_row::read_statuses` meets its contract. The loop's invariant: t is what follows the first i fields, and the slice begins with what they say; the rest is as it was.
use Rattle.ascii_row.specs.Rows.{field_status}
use Rattle.text.specs.Fields.{after_fields}
use Rattle.ground.specs.Tables.{tab}
use lib.ListN.{length, drop}
use Prim.Native.Nat.{◌≤◌}
use mathlib.Core.List.{◌++◌}
use mathlib.Core.Path.{◌≡◌}
use Rattle.ascii_row.proofs.read_statuses.Given as goal

abbrev pub invariant-loop-status : goal.invariant-loop-status
invariant-loop-status l = (length l.t ≤ length l.fields) × (l.t ≡ after_fields l.status-index l.fields) × (l.d ≡ tab (field_status l.fields) l.status-index ++ drop l.status-index l.initial.d)
