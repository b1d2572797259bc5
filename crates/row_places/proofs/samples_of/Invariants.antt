-- `row_places::samples_of` meets its contract. The loop's invariant: the first i places have their samples, and the rest is zero.
use mathlib.Core.Path.{◌≡◌}
use lib.IntN.{pos}
use lib.ListN.{get_or}
use Rattle.ground.specs.Tables.{padded}
use Rattle.row_places.specs.Rows.{place_sample}
use Rattle.row_places.proofs.samples_of.Given as goal

abbrev pub invariant-loop-i : goal.invariant-loop-i
invariant-loop-i l = l.out ≡ padded (λ i'. place_sample (get_or l.zs i' (pos 0))) l.i 96 (pos 0)
