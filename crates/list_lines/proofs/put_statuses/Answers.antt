-- `put_statuses` meets its contract. The loop's invariant: the statuses of the channels before channel i are put.
use mathlib.Core.Path.{◌≡◌}
use native.Mathlib.Omega.{arith}
use Prim.Native.Nat.{◌+◌, ◌-◌, ◌*◌, ◌≤◌}
use Rattle.list_lines.specs.Lines.{spaced_statuses}
use Rattle.pieces.specs.Inner.{Put}
use Rattle.pieces.proofs.Laws.{put-none, put_then, put_as}
use Rattle.list_lines.proofs.Laws.{spaced-statuses-next, status-long}
use Rattle.list_lines.proofs.put_statuses.Goals as goal
use Rattle.list_lines.proofs.put_statuses.Goals.{After-put_status-to}

pub loop-i-init : goal.loop-i-init
unfolding spaced_statuses
loop-i-init c = (omega arith, omega arith, put-none c.args.out.now c.args.n)

-- channel i is put too
turn : (c : After-put_status-to)
    → (c.put_status-to.result ≤ c.args.n + 2 * c.loop-i.i) × Put c.args.out.now c.args.n (spaced_statuses c.args.row c.loop-i.i) c.put_status-to.new.out c.put_status-to.result
turn c =
    let p = c.loop-i in
    let q = c.put_status-to.ensures in
    let s = c.status_of in
    let e : p.i - 1 + 1 ≡ p.i = omega arith in
    (omega (arith, q.end, status-long s.result), put_as (put_then p.invariant.2 q) (rw s.ensures (rw e at (spaced-statuses-next c.args.row (p.i - 1)))))

pub loop-i-preserved : goal.loop-i-preserved
loop-i-preserved c =
    let e : c.loop-i.i + 1 - 1 ≡ c.loop-i.i = omega arith in
    let on = turn (goal.at.loop-i-preserved c).After-put_status-to in
    (omega arith, rw e on.0, rw e on.1)

pub returns : goal.returns
returns c =
    let e : c.loop-i.i - 1 ≡ c.args.d = omega arith in
    record { put = rw (← e) c.loop-i.invariant.2; upper_bound = omega arith }

pub returns-2 : goal.returns-2
returns-2 c =
    let e : c.loop-i.i ≡ c.args.d = omega arith in
    let on = turn (goal.at.returns-2 c).After-put_status-to in
    record { put = rw (← e) on.1; upper_bound = rw (← e) on.0 }
