-- `numerals::skip_spaces` meets its contract. The loop's invariant: up to any end, the spaces that lead from `at` on are those before i and then those that lead from i on.
use native.Mathlib.Omega.{arith}
use Rattle.numerals.proofs.WalkLaws.{next-space, no-space}
use Rattle.numerals.proofs.skip_spaces.Goals as goal

pub returns-then-s-i-ne32 : goal.returns-then-s-i-ne32
returns-then-s-i-ne32 c = record {
  from = omega arith;
  to = omega arith;
  leads = λ e h k. omega (arith, c.loop-i.invariant e h k, no-space c.args.s.now _ e h (omega arith) c.if-s-i-ne32.true);
}

pub loop-i-preserved : goal.loop-i-preserved
loop-i-preserved c =
    λ e h k. omega (arith, c.loop-i.invariant e (omega arith) k, next-space c.args.s.now _ e (omega arith) (omega arith) c.if-s-i-ne32.false)
