-- `numerals::skip_spaces` meets its contract. The loop's invariant: up to any end, the spaces that lead from `at` on are those before i and then those that lead from i on.
use mathlib.Core.Path.{◌≡◌}
use Prim.Native.Nat.{ℕ, ◌≤◌, ◌+◌, ◌-◌}
use Rattle.ground.specs.Tables.{part}
use Rattle.numerals.specs.Counts.{leading_spaces}
use Rattle.numerals.proofs.skip_spaces.Given as goal

abbrev pub invariant-loop-i : goal.invariant-loop-i
invariant-loop-i l = (e : ℕ) → l.i ≤ e → e ≤ l.lim → leading_spaces (part l.at e l.s) ≡ l.i - l.at + leading_spaces (part l.i e l.s)
