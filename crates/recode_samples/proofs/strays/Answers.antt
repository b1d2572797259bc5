-- `recode_samples::strays` meets its contract. The loop's invariant: n counts those of the first i samples.
use native.Mathlib.Omega.{arith}
use mathlib.Core.Path.{refl, sym, ap, ◌∙◌, ◌≡◌}
use Rattle.recode_samples.proofs.SampleLaws.{stray-le, strays-next}
use Rattle.model.specs.declared.Kind.TheVariants.{Binary32}
use Rattle.recode_samples.specs.Inner.{bytes_at, strays_of}
use Rattle.recode_samples.proofs.strays.Goals as goal

pub loop-i-init : goal.loop-i-init
unfolding strays_of
loop-i-init c = (omega arith, refl)

pub overflow_add-n : goal.overflow_add-n
overflow_add-n c =
    let p = c.loop-i in
    omega (arith, c.stray-n.ensures, stray-le (bytes_at Binary32 c.args.b.now p.i), p.invariant.0)

pub loop-i-preserved : goal.loop-i-preserved
loop-i-preserved c =
    let b = c.args.b.now in
    let p = c.loop-i in (
      omega (arith, c.stray-n.ensures, stray-le (bytes_at Binary32 b p.i), p.invariant.0),
      rw (c.stray-n.ensures, p.invariant.1) (sym (strays-next b p.i)),
    )

pub returns : goal.returns
returns c =
    let e : c.loop-i.i ≡ c.args.a = omega arith in
    c.loop-i.invariant.1 ∙ ap (strays_of c.args.b.now) e
