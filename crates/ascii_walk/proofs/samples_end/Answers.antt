-- `ascii_walk::samples_end` meets its contract. The loop's invariant: as many samples are passed as it had turns.
use Rattle.ascii_walk.proofs.WalkLaws.{passed_on, next-sample}
use Rattle.ascii_walk.proofs.samples_end.Goals as goal

pub loop-preserved : goal.loop-preserved
loop-preserved c =
    let t = c.in_ok-i.ensures in
    let l = c.args.layout in
    let s = c.args.s.now in
    (t.within, passed_on l s 2 _ _ _ _ c.loop.invariant.1 (next-sample l s _ _ _ c.loop-test.true t))
