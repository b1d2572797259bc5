-- `recode_samples::first_stray` meets its contract: where none is counted, there is none.
use mathlib.Core.Path.{sym, ◌∙◌}
use Rattle.recode_samples.proofs.SampleLaws.{none-strays}
use Rattle.recode_samples.proofs.first_stray.Goals as goal

pub returns-then-strays-eq0 : goal.returns-then-strays-eq0
returns-then-strays-eq0 c =
    sym (none-strays c.args.b.now c.args.a (sym c.strays.ensures ∙ c.if-strays-eq0.true))
