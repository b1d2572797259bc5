-- `row_places::put_statuses` meets its contract. The loop's invariant: the first i places have their statuses, and the rest is as it was.
use Rattle.ground.proofs.FillLaws.{Filled}
use mathlib.Core.Bool.{false}
use Rattle.row_places.specs.Rows.{bool_place}
use lib.ListN.{get_or}
use Rattle.row_places.proofs.put_statuses.Given as goal

abbrev pub invariant-loop-i : goal.invariant-loop-i
invariant-loop-i l = Filled (λ i'. bool_place (get_or l.s i' false)) l.initial.d l.i l.d
