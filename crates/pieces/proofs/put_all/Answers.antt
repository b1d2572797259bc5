-- `put_all` meets its contract. The loop's invariant: the first i bytes of s stand after the first n of what there was, and what follows stays.
use mathlib.Core.Path.{◌≡◌, refl, ◌∙◌}
use mathlib.Core.List.{append_assoc, append-nil}
use Prim.Native.Nat.{◌<◌, ◌+◌}
use native.Mathlib.Nat.{add-zero}
use native.Mathlib.Numerals.{add-one}
use native.Mathlib.Omega.{arith}
use lib.ListN.{length, get_or, length-set}
use lib.Seq.{take-suc, take-suc-set, take-length, drop-set-lt}
use Rattle.pieces.proofs.Laws.{same-on}
use Rattle.pieces.proofs.put_all.Goals as goal

pub loop-i-init : goal.loop-i-init
loop-i-init c = (refl, rw (add-zero, append-nil), refl)

pub loop-i-preserved : goal.loop-i-preserved
loop-i-preserved c =
    let p = c.loop-i in
    let o = p.out in
    let to = c.args.n + p.i in
    let v = get_or c.args.s.now p.i 0 in
    let h : to < length o = omega arith in
    let e : c.args.n + (p.i + 1) ≡ to + 1 = omega arith in (
      rw length-set p.invariant.0,
      rw (e, add-one to, add-one p.i, take-suc-set o to v h, p.invariant.1, take-suc c.args.s.now p.i 0 c.loop-i-test.true, append_assoc),
      rw e (drop-set-lt (to + 1) o to v (omega arith) ∙ same-on to 1 o c.args.out.now p.invariant.2),
    )

pub returns : goal.returns
returns c =
    let p = c.loop-i in
    let e : p.i ≡ length c.args.s.now = omega arith in
    record { end = refl; bytes = rw e at p.invariant.1 ∙ rw take-length; rest = rw e at p.invariant.2 }
