-- `put_fields` meets its contract. The loop's invariant: what is put and what the walk gives from here make the whole; the field is at most one ahead of the bytes.
use mathlib.Core.Path.{◌≡◌, ap}
use mathlib.Core.Bool.{not}
use mathlib.Core.List.{[], ◌∷◌, ◌++◌, append_assoc, append-nil}
use Prim.Native.Nat.{◌+◌, ◌<◌}
use native.Mathlib.Omega.{arith}
use lib.Dec.{eqb}
use lib.ListN.{length, drop, get_or, length-append}
use Rattle.ground.proofs.Walk.{done}
use Rattle.pieces.proofs.Laws.{put-none, put_as}
use Rattle.rewrite_lines.specs.Lines.{fields_text}
use Rattle.rewrite_lines.specs.Inner.{next_field, walked}
use Rattle.rewrite_lines.proofs.WalkLaws.{walk-out, walk-in, next_small, walked-fields, put_byte}
use Rattle.rewrite_lines.proofs.put_fields.Goals as goal
use Rattle.rewrite_lines.proofs.put_fields.Goals.{Then-not-is_left_out, then-not-is_left_out, else-not-is_left_out}

pub loop-b-init : goal.loop-b-init
loop-b-init c = (omega arith, ([], put-none c.args.out.now c.args.n, walked-fields c.args.sort c.args.line.now))

-- the byte that stays
stays : (c : Then-not-is_left_out)
    → let p = c.loop-b in let b = get_or c.args.line.now p.b-index 0 in
    p.invariant.1.0 ++ b ∷ walked c.args.sort (next_field p.field b) (eqb b 44) (drop (p.b-index + 1) c.args.line.now) ≡ fields_text c.args.sort c.args.line.now
stays c =
    let p = c.loop-b in
    rw (walk-in c.args.sort p.field p.leads c.args.line.now p.b-index c.loop-b-test.true c.is_left_out.ensures (ap not c.if-not-is_left_out.true)) at p.invariant.1.2

pub bounds-out-to : goal.bounds-out-to
bounds-out-to c = omega (arith, c.loop-b.invariant.1.1.end, rw length-append at (ap length (stays (goal.at.bounds-out-to c).Then-not-is_left_out)))

pub overflow_add-to : goal.overflow_add-to
overflow_add-to c = omega (arith, bounds-out-to (goal.at.overflow_add-to c).Then-not-is_left_out)

pub loop-b-preserved : goal.loop-b-preserved
loop-b-preserved c =
    let p = c.loop-b in
    let s = c.args.line.now in
    let b = get_or s p.b-index 0 in
    elim c.if-not-is_left_out.branch [
      | then-not-is_left_out w ↦
          let q = w.next_field-field.ensures in
          let n = next_small p.field b in
          let e = walk-in c.args.sort p.field p.leads s p.b-index c.loop-b-test.true c.is_left_out.ensures (ap not w.if-not-is_left_out.true) in
          let on = rw e at p.invariant.1.2 in
          let room : p.to < length p.out = omega (arith, p.invariant.1.1.end, rw length-append at (ap length on)) in
          rw (w.out-is, w.to-is, w.field-is, w.leads-is, q) (omega (arith, n), (p.invariant.1.0 ++ b ∷ [], put_byte b p.invariant.1.1 room, rw append_assoc on))
      | else-not-is_left_out w ↦
          let e = walk-out c.args.sort p.field p.leads s p.b-index c.loop-b-test.true c.is_left_out.ensures (ap not w.if-not-is_left_out.false) in
          rw (w.out-is, w.to-is, w.field-is, w.leads-is) (omega arith, (p.invariant.1.0, p.invariant.1.1, rw (← e) p.invariant.1.2))
    ]

pub returns : goal.returns
returns c =
    let p = c.loop-b in
    put_as p.invariant.1.1 (rw (done c.args.line.now p.b-index c.loop-b-test.false, append-nil) at p.invariant.1.2)
