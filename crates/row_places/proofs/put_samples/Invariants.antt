-- `row_places::put_samples` meets its contract. The loop's invariant: the first i places have their samples, and the rest is as it was.
use Rattle.ground.proofs.FillLaws.{Filled}
use lib.IntN.{pos}
use lib.ListN.{get_or}
use Rattle.row_places.specs.Rows.{sample_place}
use Rattle.row_places.proofs.put_samples.Given as goal

abbrev pub invariant-loop-i : goal.invariant-loop-i
invariant-loop-i l = Filled (λ i'. sample_place (get_or l.zs i' (pos 0))) l.initial.d l.i l.d
