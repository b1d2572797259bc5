-- `recode_samples::narrow_all` meets its contract. The loop's invariant: the slice begins with i samples, and the rest is as it was.
use native.Mathlib.Omega.{arith}
use mathlib.Core.Path.{◌∙◌}
use Rattle.ground.proofs.Tables.{cat-turn}
use Rattle.ground.proofs.Parts.{length_part}
use Prim.Native.Nat.{◌+◌, ◌*◌}
use Rattle.recode_samples.specs.Inner.{recoded, bytes_at}
use Rattle.recode_samples.proofs.SampleLaws.{length-recoded, recoded-all, no_stray}
use Rattle.model.specs.declared.Kind.TheVariants.{Binary, Binary32}
use Rattle.recode_samples.proofs.narrow_all.Goals as goal

pub narrow-requires : goal.narrow-requires
narrow-requires c =
    let p = c.loop-i in (
      length_part (p.i * 4) (p.i * 4 + 4) c.args.b.now (omega arith) ∙ omega arith,
      length_part (p.i * 2) (p.i * 2 + 2) p.d (omega arith) ∙ omega arith,
      no_stray c.args.b.now c.args.a c.requires.2 p.i c.loop-i-test.true,
    )

pub loop-i-preserved : goal.loop-i-preserved
loop-i-preserved c =
    let p = c.loop-i in
    let put = c.narrow in
    let t =
    cat-turn (λ j. recoded Binary32 Binary (bytes_at Binary32 c.args.b.now j)) 2 (λ j. length-recoded Binary32 Binary _)
    c.args.d.now p.d put.new.d p.i (omega arith) p.invariant (omega arith) put.ensures in
    t.1

pub returns : goal.returns
returns c =
    let p = c.loop-i in
    recoded-all Binary32 Binary c.args.a p.i c.args.b.now c.args.d.now p.d (omega arith) c.requires.1 p.invariant
