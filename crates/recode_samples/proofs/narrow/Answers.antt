-- `recode_samples::narrow` meets its contract.
use Rattle.recode_samples.proofs.SampleLaws.{stray-short}
use Rattle.recode_samples.proofs.narrow.Goals as goal

pub short_of-requires : goal.short_of-requires
short_of-requires c =
    rw c.four.ensures (stray-short c.args.b.now c.requires.2)
