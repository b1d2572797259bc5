-- `row_places::put_row` meets its contract: the time is the first place, and the samples and statuses fill the rest.
use mathlib.Core.Path.{◌∙◌}
use native.Mathlib.Omega.{arith}
use mir.ValLaws.{to_z-of_z}
use mir.Syntax.{w64}
use Rattle.ground.proofs.Parts.{put_first}
use Rattle.row_places.proofs.put_row.Goals as goal

pub returns : goal.returns
returns c =
    put_first c.args.d.now c.put_channels.new.d _ (omega arith)
    ∙ rw (to_z-of_z w64 c.plus.result (record { sfits = c.plus.type_inv }), c.plus.ensures) c.put_channels.ensures
