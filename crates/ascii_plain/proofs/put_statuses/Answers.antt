-- `ascii_plain::put_statuses` meets its contract. The loop's invariant: the slice begins with i statuses, and the rest is as it was.
use mathlib.Core.Path.{◌≡◌, refl, ◌∙◌}
use mathlib.Core.List.{append-nil}
use Prim.Native.Nat.{◌*◌}
use native.Mathlib.Omega.{arith}
use lib.ListN.{length}
use lib.Seq.{drop-length}
use Rattle.ground.proofs.Tables.{cat-turn}
use Rattle.ascii_plain.specs.Rows.{status_text}
use Rattle.ascii_plain.proofs.put_statuses.Goals as goal

pub loop-i-preserved : goal.loop-i-preserved
loop-i-preserved c =
    let p = c.loop-i in
    let put = c.put_status in
    let t = cat-turn (status_text c.args.s.now) 2 (λ i. refl) c.args.d.now p.d put.new.d p.i p.auto.d p.invariant (omega arith) put.ensures in
    t.1

pub returns : goal.returns
returns c =
    let e : c.loop-i.i ≡ c.args.count = omega arith in
    let l : length c.args.d.now ≡ c.args.count * 2 = omega arith in
    c.loop-i.invariant ∙ rw (e, ← l, drop-length, append-nil)
