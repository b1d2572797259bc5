-- `ascii_row::check_fields` meets its contract. The loop's invariant: the check of all fields is that of those from field k on, with which t begins.
use Rattle.ascii_row.specs.Rows.{check_fields}
use lib.ListN.{length}
use Prim.Native.Nat.{◌≤◌, ◌+◌, ◌-◌}
use mathlib.Core.Path.{◌≡◌}
use Rattle.ascii_row.proofs.check_fields.Given as goal

abbrev pub invariant-loop-k : goal.invariant-loop-k
invariant-loop-k l = (length l.t ≤ length l.fields) × (check_fields l.layout l.n l.fields 2 l.count ≡ check_fields l.layout l.n l.t l.k ((2 + l.count) - l.k))
