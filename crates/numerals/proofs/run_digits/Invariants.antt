-- `numerals::run_digits` meets its contract. The loop's invariant: the digits from `at` on, up to any end, are those worth v and then those from i on.
use mathlib.Core.Path.{◌≡◌}
use Prim.Native.Nat.{ℕ, ◌≤◌, ◌<◌, ◌-◌, ◌^◌}
use Rattle.ground.specs.Tables.{part}
use Rattle.numerals.specs.Counts.{digits_from}
use Rattle.numerals.proofs.run_digits.Given as goal

abbrev pub invariant-loop-i : goal.invariant-loop-i
invariant-loop-i l = (l.value < 10 ^ (l.i - l.at)) × ((e : ℕ) → l.i ≤ e → e ≤ l.lim → digits_from 0 (part l.at e l.s) ≡ digits_from l.value (part l.i e l.s))
