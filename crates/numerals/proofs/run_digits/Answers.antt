-- `numerals::run_digits` meets its contract. The loop's invariant: the digits from `at` on, up to any end, are those worth v and then those from i on.
use mathlib.Core.Path.{◌≡◌, sym, ◌∙◌}
use Prim.Native.Nat.{◌≤◌, ◌+◌, ◌-◌}
use native.Mathlib.Omega.{arith}
use lib.ListN.{get_or}
use Rattle.ground.proofs.Parts.{part_none}
use Rattle.numerals.proofs.Tens.{more, cap}
use Rattle.numerals.proofs.CountLaws.{digit-bounds}
use Rattle.numerals.proofs.WalkLaws.{next-digit, no_digit}
use Rattle.numerals.proofs.run_digits.Goals as goal
use Rattle.numerals.proofs.run_digits.Goals.{Else-not-is_digit}

-- what was read is a digit
digit : (c : Else-not-is_digit)
    → let b = get_or c.args.s.now c.loop-i.i 0 in (48 ≤ b) × (b ≤ 57)
digit c = digit-bounds _ (sym c.is_digit.ensures ∙ c.if-not-is_digit.false)

pub returns-then-not-is_digit : goal.returns-then-not-is_digit
returns-then-not-is_digit c =
    let inv = c.loop-i.invariant in
    record {
      from = omega arith;
      to = omega arith;
      worth = inv.1 _ (omega arith) (omega arith) ∙ rw part_none;
      stops = λ x h k. inv.1 x (omega arith) k ∙ no_digit c.args.s.now _ x h (omega arith) _ (sym c.is_digit.ensures ∙ c.if-not-is_digit.true);
    }

pub overflow_mul-value : goal.overflow_mul-value
overflow_mul-value c = let h = cap 18 _ _ (omega arith) c.loop-i.invariant.0 in omega arith

pub overflow_sub-b : goal.overflow_sub-b
overflow_sub-b c = (digit (goal.at.overflow_sub-b c).Else-not-is_digit).0

pub overflow_add-value : goal.overflow_add-value
overflow_add-value c = let h = cap 18 _ _ (omega arith) c.loop-i.invariant.0 in omega (arith, c.wide.ensures, digit (goal.at.overflow_add-value c).Else-not-is_digit)

pub loop-i-preserved : goal.loop-i-preserved
loop-i-preserved c =
    let inv = c.loop-i.invariant in
    let i = c.loop-i.i in
    let q : i + 1 - c.args.at ≡ i - c.args.at + 1 = omega arith in (
      rw q (more _ _ _ inv.0 (omega (arith, c.wide.ensures, digit (goal.at.loop-i-preserved c).Else-not-is_digit))),
      λ e h k. inv.1 e (omega arith) k
          ∙ rw c.wide.ensures (next-digit c.args.s.now _ e (omega arith) (omega arith) _ (sym c.is_digit.ensures ∙ c.if-not-is_digit.false)),
    )
