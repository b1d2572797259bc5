-- `recode_samples::put_two` meets its contract.
use mathlib.Core.Path.{sym, ◌∙◌}
use Rattle.ground.proofs.Parts.{put-pair}
use Rattle.recode_samples.proofs.SampleLaws.{word-two-bytes}
use Rattle.recode_samples.proofs.put_two.Goals as goal

pub returns : goal.returns
returns c = put-pair c.args.d.now _ _ c.requires ∙ sym (word-two-bytes c.args.n)
