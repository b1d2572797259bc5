-- `recode_samples::two` meets its contract.
use mathlib.Core.Path.{sym}
use Rattle.recode_samples.proofs.SampleLaws.{word_two}
use Rattle.recode_samples.proofs.two.Goals as goal

pub returns : goal.returns
returns c = sym (word_two c.args.b.now c.requires)
