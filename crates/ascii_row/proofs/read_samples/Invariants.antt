-- `ascii_row::read_samples` meets its contract. The loop's invariant: t is what follows the first i fields, and the slice begins with what they say; the rest is as it was.
use Rattle.ascii_row.specs.Rows.{field_sample}
use Rattle.text.specs.Fields.{after_fields}
use Rattle.ground.specs.Tables.{tab}
use lib.ListN.{length, drop}
use Prim.Native.Nat.{◌≤◌}
use mathlib.Core.List.{◌++◌}
use mathlib.Core.Path.{◌≡◌}
use Rattle.ascii_row.proofs.read_samples.Given as goal

abbrev pub invariant-loop-sample : goal.invariant-loop-sample
invariant-loop-sample l = (length l.t ≤ length l.fields) × (l.t ≡ after_fields l.sample-index l.fields) × (l.d ≡ tab (field_sample l.layout l.fields) l.sample-index ++ drop l.sample-index l.initial.d)
