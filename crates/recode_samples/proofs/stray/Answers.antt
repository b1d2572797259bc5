-- `recode_samples::stray` meets its contract: which numbers of 32 bits fit in 16.
use native.Mathlib.Omega.{arith}
use mathlib.Core.Path.{sym, ◌∙◌}
use Rattle.recode_samples.proofs.SampleLaws.{stray-low, stray-kept, stray-mid, stray-high}
use Rattle.recode_samples.proofs.stray.Goals as goal

pub returns-then-n : goal.returns-then-n
returns-then-n c = sym (stray-kept c.args.b.now (sym c.four-n.ensures ∙ c.if-n.true))

pub returns-then-n-lt-FIRST_STRAY : goal.returns-then-n-lt-FIRST_STRAY
returns-then-n-lt-FIRST_STRAY c = sym (stray-low c.args.b.now (omega (arith, c.four-n.ensures, c.if-n-lt-FIRST_STRAY.true)))

pub returns-then-n-le-LAST_STRAY : goal.returns-then-n-le-LAST_STRAY
returns-then-n-le-LAST_STRAY c =
    let n = c.four-n.ensures in
    sym (stray-mid c.args.b.now
    (omega (arith, n, c.if-n-lt-FIRST_STRAY.false)) (λ e. c.if-n.false (n ∙ e)) (omega (arith, n, c.if-n-le-LAST_STRAY.true)))

pub returns-else-n-le-LAST_STRAY : goal.returns-else-n-le-LAST_STRAY
returns-else-n-le-LAST_STRAY c =
    let n = c.four-n in
    sym (stray-high c.args.b.now (omega (arith, n.ensures, c.if-n-le-LAST_STRAY.false)) (omega (arith, n.ensures, n.type_inv)))
