-- `recode_samples::four` meets its contract.
use mathlib.Core.Path.{sym}
use Rattle.recode_samples.proofs.SampleLaws.{word-four}
use Rattle.recode_samples.proofs.four.Goals as goal

pub returns : goal.returns
returns c =
    sym (word-four c.args.b.now c.requires)
