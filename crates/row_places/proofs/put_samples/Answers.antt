-- `row_places::put_samples` meets its contract. The loop's invariant: the first i places have their samples, and the rest is as it was.
use Rattle.ground.proofs.FillLaws.{fill-next, filled}
use mir.Syntax.{w32, w64}
use lib.IntN.{pos}
use mir.ValLaws.{to_z-of_z}
use native.Mathlib.Omega.{arith}
use lib.ListN.{get_or}
use mathlib.Core.Path.{ap, ◌∙◌}
use Rattle.row_places.specs.Rows.{sample_place}
use Rattle.row_places.proofs.put_samples.Goals as goal

pub loop-i-preserved : goal.loop-i-preserved
loop-i-preserved c =
    fill-next (λ i. sample_place (get_or c.args.zs.now i (pos 0))) c.args.d.now c.loop-i.d c.loop-i.i c.loop-i.invariant _ (omega arith)
    (to_z-of_z w64 c.sample_place.result (record { sfits = c.sample_place.type_inv }) ∙ c.sample_place.ensures ∙ ap sample_place (to_z-of_z w32 _ (record { sfits = c.sample_place-arg-1.given })))

pub shape_of-d : goal.shape_of-d
shape_of-d c = c.loop-i.invariant.1

pub returns : goal.returns
returns c =
    filled (λ i. sample_place (get_or c.args.zs.now i (pos 0))) c.args.d.now c.loop-i.d c.loop-i.i c.loop-i.invariant (omega arith)
