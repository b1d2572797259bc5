-- `row_places::put_statuses` meets its contract. The loop's invariant: the first i places have their statuses, and the rest is as it was.
use Rattle.ground.proofs.FillLaws.{fill-next, filled}
use mir.Syntax.{w64}
use mathlib.Core.Bool.{false}
use Rattle.row_places.specs.Rows.{bool_place}
use mir.ValLaws.{to_z-of_z}
use native.Mathlib.Omega.{arith}
use lib.ListN.{get_or}
use mathlib.Core.Path.{◌∙◌}
use Rattle.row_places.proofs.put_statuses.Goals as goal

pub loop-i-preserved : goal.loop-i-preserved
loop-i-preserved c =
    fill-next (λ i. bool_place (get_or c.args.s.now i false)) c.args.d.now c.loop-i.d c.loop-i.i c.loop-i.invariant _ (omega arith)
    (to_z-of_z w64 c.bool_place.result (record { sfits = c.bool_place.type_inv }) ∙ c.bool_place.ensures)

pub shape_of-d : goal.shape_of-d
shape_of-d c = c.loop-i.invariant.1

pub returns : goal.returns
returns c =
    filled (λ i. bool_place (get_or c.args.s.now i false)) c.args.d.now c.loop-i.d c.loop-i.i c.loop-i.invariant (omega arith)
