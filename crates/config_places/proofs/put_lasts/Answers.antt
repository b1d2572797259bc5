-- `config_places::put_lasts` meets its contract. The loop's invariant: the first i places have their last rows, and the rest is as it was.
use Rattle.ground.proofs.FillLaws.{fill-next, filled}
use mir.Syntax.{w64}
use lib.IntN.{pos}
use mir.ValLaws.{to_z-of_z}
use native.Mathlib.Omega.{arith}
use lib.ListN.{get_or}
use mathlib.Core.Path.{◌∙◌}
use Rattle.config_places.proofs.put_lasts.Goals as goal

pub loop-i-preserved : goal.loop-i-preserved
loop-i-preserved c =
    fill-next (λ i. pos (get_or c.args.lasts.now i 0)) c.args.d.now c.loop-i.d c.loop-i.i c.loop-i.invariant _ (omega arith)
    (to_z-of_z w64 c.number_place.result (record { sfits = c.number_place.type_inv }) ∙ c.number_place.ensures)

pub shape_of-d : goal.shape_of-d
shape_of-d c = c.loop-i.invariant.1

pub returns : goal.returns
returns c =
    filled (λ i. pos (get_or c.args.lasts.now i 0)) c.args.d.now c.loop-i.d c.loop-i.i c.loop-i.invariant (omega arith) ∙ rw c.requires.1
