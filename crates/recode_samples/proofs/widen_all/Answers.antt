-- `recode_samples::widen_all` meets its contract. The loop's invariant: the slice begins with i samples, and the rest is as it was.
use native.Mathlib.Omega.{arith}
use Rattle.ground.proofs.Tables.{cat-turn}
use Rattle.recode_samples.specs.Inner.{recoded, bytes_at}
use Rattle.recode_samples.proofs.SampleLaws.{length-recoded, recoded-all}
use Rattle.model.specs.declared.Kind.TheVariants.{Binary, Binary32}
use Rattle.recode_samples.proofs.widen_all.Goals as goal

pub loop-i-preserved : goal.loop-i-preserved
loop-i-preserved c =
    let p = c.loop-i in
    let put = c.widen in
    let t =
    cat-turn (λ j. recoded Binary Binary32 (bytes_at Binary c.args.b.now j)) 4 (λ j. length-recoded Binary Binary32 _)
    c.args.d.now p.d put.new.d p.i (omega arith) p.invariant (omega arith) put.ensures in
    t.1

pub returns : goal.returns
returns c =
    let p = c.loop-i in
    recoded-all Binary Binary32 c.args.a p.i c.args.b.now c.args.d.now p.d (omega arith) c.requires.1 p.invariant
