-- `put_samples` meets its contract. The loop's invariant: the samples of the channels before channel i are put.
use mathlib.Core.Path.{◌≡◌}
use native.Mathlib.Omega.{arith}
use Prim.Native.Nat.{◌+◌, ◌-◌}
use Rattle.list_lines.specs.Lines.{spaced_samples}
use Rattle.pieces.specs.Inner.{Put}
use Rattle.pieces.proofs.Laws.{put-none, put_then, put_as}
use Rattle.list_lines.proofs.Laws.{spaced-samples-next}
use Rattle.list_lines.proofs.put_samples.Goals as goal
use Rattle.list_lines.proofs.put_samples.Goals.{After-put_sample-to}

pub loop-i-init : goal.loop-i-init
unfolding spaced_samples
loop-i-init c = (omega arith, omega arith, put-none c.args.out.now c.args.n)

-- channel i is put too
turn : (c : After-put_sample-to) → Put c.args.out.now c.args.n (spaced_samples c.args.row c.loop-i.i) c.put_sample-to.new.out c.put_sample-to.result
turn c =
    let p = c.loop-i in
    let e : p.i - 1 + 1 ≡ p.i = omega arith in
    put_as (put_then p.invariant.2 c.put_sample-to.ensures.put) (rw c.sample.ensures (rw e at (spaced-samples-next c.args.row (p.i - 1))))

pub loop-i-preserved : goal.loop-i-preserved
loop-i-preserved c =
    let e : c.loop-i.i + 1 - 1 ≡ c.loop-i.i = omega arith in
    (omega arith, omega arith, rw e (turn (goal.at.loop-i-preserved c).After-put_sample-to))

pub returns : goal.returns
returns c =
    let e : c.loop-i.i - 1 ≡ c.args.a = omega arith in
    record { put = rw (← e) c.loop-i.invariant.2; upper_bound = omega arith }

pub returns-2 : goal.returns-2
returns-2 c =
    let e : c.loop-i.i ≡ c.args.a = omega arith in
    record { put = rw (← e) (turn (goal.at.returns-2 c).After-put_sample-to); upper_bound = omega arith }
