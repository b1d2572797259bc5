-- `fields_length` meets its contract. The loop's invariant: the size so far and what the walk gives from here make the whole; the size is within the bytes, the field at most one ahead.
use mathlib.Core.Path.{ap}
use mathlib.Core.Bool.{not}
use native.Mathlib.Omega.{arith}
use lib.ListN.{length, get_or}
use Rattle.ground.proofs.Walk.{done}
use Rattle.rewrite_lines.proofs.WalkLaws.{walk-out, walk-in, next_small, walked-fields}
use Rattle.rewrite_lines.proofs.fields_length.Goals as goal
use Rattle.rewrite_lines.proofs.fields_length.Goals.{then-not-is_left_out, else-not-is_left_out}

pub loop-b-init : goal.loop-b-init
loop-b-init c = (omega arith, omega arith, omega (arith, ap length (walked-fields c.args.sort c.args.line.now)))

pub loop-b-preserved : goal.loop-b-preserved
loop-b-preserved c =
    let p = c.loop-b in
    let s = c.args.line.now in
    elim c.if-not-is_left_out.branch [
      | then-not-is_left_out w ↦
          let q = w.next_field-field.ensures in
          let n = next_small p.field (get_or s p.b-index 0) in
          let e = walk-in c.args.sort p.field p.leads s p.b-index c.loop-b-test.true c.is_left_out.ensures (ap not w.if-not-is_left_out.true) in
          rw (w.size-is, w.field-is, w.leads-is, q) (omega arith, omega (arith, n), omega (arith, p.invariant.2, ap length e))
      | else-not-is_left_out w ↦
          let e = walk-out c.args.sort p.field p.leads s p.b-index c.loop-b-test.true c.is_left_out.ensures (ap not w.if-not-is_left_out.false) in
          rw (w.size-is, w.field-is, w.leads-is) (omega arith, omega arith, rw (← e) p.invariant.2)
    ]

pub returns : goal.returns
returns c =
    let p = c.loop-b in
    let whole = rw (done c.args.line.now p.b-index c.loop-b-test.false) at p.invariant.2 in
    record { value = omega (arith, whole); upper_bound = omega arith }
