-- `ascii_walk::pass_fours` meets its contract. The loop's invariant: k statuses are passed, two bytes each.
use native.Mathlib.Omega.{arith}
use Rattle.ascii_walk.proofs.WalkLaws.{passed-four}
use Rattle.ascii_walk.proofs.pass_fours.Goals as goal

pub loop-k-preserved : goal.loop-k-preserved
loop-k-preserved c =
    (omega arith, λ l. passed-four l c.args.s.now _ _ (c.loop-k.invariant.1 l) (c.four_there.ensures (c.if-not-four_there.false)))
