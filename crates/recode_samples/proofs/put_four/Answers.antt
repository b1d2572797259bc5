-- `recode_samples::put_four` meets its contract.
use mathlib.Core.Path.{sym, ◌∙◌}
use Rattle.recode_samples.proofs.SampleLaws.{put_four, word-four-bytes}
use Rattle.recode_samples.proofs.put_four.Goals as goal

pub returns : goal.returns
returns c = put_four c.args.d.now _ _ _ _ c.requires ∙ sym (word-four-bytes c.args.n)
