-- `is_mark` meets its contract: the number is compared by its bits.
use Rattle.model.proofs.SampleLaws.{mark-word}
use Rattle.model.proofs.is_mark.Goals as goal

pub returns : goal.returns
returns c = mark-word c.args.z c.ranges.z
