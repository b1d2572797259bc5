-- `row_places::statuses_of` meets its contract. The loop's invariant: the first i places have their statuses, and the rest is off.
use mathlib.Core.Path.{◌≡◌}
use mathlib.Core.Bool.{false}
use lib.IntN.{pos}
use lib.ListN.{get_or}
use lib.Signed.{lt_z}
use Rattle.ground.specs.Tables.{padded}
use Rattle.row_places.proofs.statuses_of.Given as goal

abbrev pub invariant-loop-i : goal.invariant-loop-i
invariant-loop-i l = l.out ≡ padded (λ i'. lt_z (pos 0) (get_or l.zs i' (pos 0))) l.i 256 false
