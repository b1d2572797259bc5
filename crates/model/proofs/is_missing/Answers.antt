-- `is_missing` meets its contract: below the lowest sample there is one number of 32 bits.
use mir.Syntax.{w32}
use mir.ValLaws.{to_z-of_z}
use Rattle.model.proofs.SampleLaws.{missing-below}
use Rattle.model.proofs.is_missing.Goals as goal

pub returns : goal.returns
returns c = rw (to_z-of_z w32 c.args.z c.ranges.z) (missing-below c.args.z c.ranges.z.sfits)
