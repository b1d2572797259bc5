-- `recode_samples::extended` meets its contract.
use Rattle.recode_samples.proofs.SampleLaws.{extended-is}
use Rattle.recode_samples.proofs.extended.Goals as goal

pub returns : goal.returns
returns c = extended-is c.args.n c.requires
