-- `row_places::first_unfit` meets its contract. The loop's invariant: the search from i on finds what the whole search does.
use mathlib.Core.Path.{◌≡◌}
use Prim.Native.Nat.{◌-◌}
use lib.IntN.{pos}
use lib.ListN.{get_or}
use Rattle.ground.specs.Search.{fails_from}
use Rattle.row_places.specs.Rows.{fits_place, unfit}
use Rattle.row_places.proofs.first_unfit.Given as goal

abbrev pub invariant-loop-i : goal.invariant-loop-i
invariant-loop-i l = fails_from (λ j. fits_place l.layout j (get_or l.zs j (pos 0))) l.i (l.end - l.i) ≡ unfit l.layout l.zs
