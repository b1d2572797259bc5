-- `is_none` meets its contract: below the lowest place there is one number of 64 bits.
use mir.Syntax.{w64}
use mir.ValLaws.{to_z-of_z}
use Rattle.model.proofs.SampleLaws.{none_below}
use Rattle.row_places.proofs.is_none.Goals as goal

pub returns : goal.returns
returns c = rw (to_z-of_z w64 c.args.z c.ranges.z) (none_below c.args.z c.ranges.z.sfits)
