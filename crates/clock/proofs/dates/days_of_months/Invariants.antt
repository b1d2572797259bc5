-- `days_of_months` meets its contract. The loop's invariant: days are those of the months before m.
use mathlib.Core.Path.{◌≡◌}
use Prim.Native.Nat.{◌≤◌, ◌+◌, ◌-◌}
use Rattle.clock.specs.Dates.{days_of_months}
use Rattle.clock.proofs.dates.days_of_months.Given as goal

abbrev pub invariant-loop-m : goal.invariant-loop-m
invariant-loop-m l = (l.m ≤ l.months + 1) × (l.days ≡ days_of_months l.year (l.m - 1))
