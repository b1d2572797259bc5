-- `digits_of` meets its contract. The loop's invariant: the digits before the place are worth v, which has no more digits than they are bytes.
use mathlib.Core.Path.{sym, ◌∙◌}
use Prim.Native.Nat.{◌≤◌}
use native.Mathlib.Omega.{arith}
use lib.ListN.{get_or}
use Rattle.ground.proofs.Walk.{here, done}
use Rattle.numerals.proofs.Tens.{more, cap}
use Rattle.numerals.proofs.CountLaws.{digit-bounds}
use Rattle.reals.specs.Exact.{digits_of}
use Rattle.reals.proofs.digits_of.Goals as goal
use Rattle.reals.proofs.digits_of.Goals.{Then-is_digit, then-is_digit, else-is_digit}

-- what was read is a digit
digit : (c : Then-is_digit)
    → let b = get_or c.args.m.now c.loop-b.b-index 0 in (48 ≤ b) × (b ≤ 57)
digit c = digit-bounds _ (sym c.is_digit.ensures ∙ c.if-is_digit.true)

pub overflow_mul-v : goal.overflow_mul-v
overflow_mul-v c = let h = cap 13 _ _ (omega arith) c.loop-b.invariant.0 in omega arith

pub overflow_sub-b : goal.overflow_sub-b
overflow_sub-b c = (digit (goal.at.overflow_sub-b c).Then-is_digit).0

pub overflow_add-v : goal.overflow_add-v
overflow_add-v c = let h = cap 13 _ _ (omega arith) c.loop-b.invariant.0 in omega (arith, c.wide.ensures, digit (goal.at.overflow_add-v c).Then-is_digit)

pub loop-b-preserved : goal.loop-b-preserved
unfolding digits_of
loop-b-preserved c =
    let inv = c.loop-b.invariant in
    elim c.if-is_digit.branch [
      | then-is_digit w ↦
          let d = digit-bounds _ (sym c.is_digit.ensures ∙ w.if-is_digit.true) in
          rw w.v-is (
            more _ _ _ inv.0 (omega (arith, w.wide.ensures, d)),
            rw (w.wide.ensures, inv.1, here _ _ c.loop-b-test.true, digits_of, ← c.is_digit.ensures, w.if-is_digit.true),
          )
      | else-is_digit w ↦
          rw w.v-is (
            cap _ _ _ (omega arith) inv.0,
            rw (inv.1, here _ _ c.loop-b-test.true, digits_of, ← c.is_digit.ensures, w.if-is_digit.false),
          )
    ]

pub returns : goal.returns
unfolding digits_of
returns c = rw (c.loop-b.invariant.1, done _ _ c.loop-b-test.false)
