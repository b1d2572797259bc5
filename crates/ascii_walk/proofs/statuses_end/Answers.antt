-- `ascii_walk::statuses_end` meets its contract. The loop's invariant: k statuses are passed, two bytes each.
use Rattle.ascii_walk.proofs.WalkLaws.{passed-status}
use Rattle.ascii_walk.proofs.statuses_end.Goals as goal

pub loop-k-preserved : goal.loop-k-preserved
loop-k-preserved c = λ l. passed-status l c.args.s.now _ _ (c.loop-k.invariant l) (c.status_there.ensures c.if-not-status_there.false)
