-- `recode_samples::long_of` meets its contract.
use Rattle.recode_samples.proofs.SampleLaws.{long-is}
use Rattle.recode_samples.proofs.long_of.Goals as goal

pub returns : goal.returns
returns c = long-is c.args.n c.requires c.extended-wide.result c.extended-wide.ensures
