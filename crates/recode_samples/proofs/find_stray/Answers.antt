-- `recode_samples::find_stray` meets its contract. The loop's invariant: the search from i on finds what the whole search does.
use native.Mathlib.Omega.{arith}
use mathlib.Core.Path.{sym, ◌∙◌, ◌≡◌}
use native.Mathlib.Nat.{sub-zero}
use Rattle.model.specs.Rows.{misfit}
use Rattle.recode_samples.proofs.SampleLaws.{search-on, search-here}
use Prim.Native.Nat.{◌-◌}
use Rattle.recode_samples.specs.Inner.{first_stray}
use Rattle.recode_samples.proofs.find_stray.Goals as goal

pub loop-i-init : goal.loop-i-init
unfolding first_stray misfit
loop-i-init c = rw sub-zero

pub returns-then-stray-ne0 : goal.returns-then-stray-ne0
returns-then-stray-ne0 c =
    let p = c.loop-i in
    sym (search-here c.args.b.now c.args.a p.i c.loop-i-test.true (λ e. c.if-stray-ne0.true (c.stray.ensures ∙ e))) ∙ p.invariant

pub loop-i-preserved : goal.loop-i-preserved
loop-i-preserved c =
    let p = c.loop-i in
    sym (search-on c.args.b.now c.args.a p.i c.loop-i-test.true (sym c.stray.ensures ∙ c.if-stray-ne0.false)) ∙ p.invariant

pub returns : goal.returns
returns c =
    let e : c.loop-i.i ≡ c.args.a = omega arith in
    let z : c.args.a - c.loop-i.i ≡ 0 = omega arith in
    let f : c.loop-i.i ≡ first_stray c.args.a c.args.b.now = rw z at c.loop-i.invariant in
    rw (← f) (sym e)
