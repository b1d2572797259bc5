-- `days_of_months` meets its contract. The loop's invariant: days are those of the months before m.
use mathlib.Core.Path.{◌≡◌, refl, sym}
use Prim.Native.Nat.{◌+◌, ◌-◌}
use native.Mathlib.Omega.{arith}
use Rattle.clock.specs.Dates.{days_of_months}
use Rattle.clock.proofs.DateLaws.{month-between, months-at-most, months-next}
use Rattle.clock.proofs.dates.days_of_months.Goals as goal
use Rattle.clock.proofs.dates.days_of_months.Goals.{After-month_days-days}

-- one month more
next : (c : After-month_days-days) → c.loop-m.days + c.month_days-days.result ≡ days_of_months c.args.year c.loop-m.m
next c = rw (c.loop-m.invariant.1, c.month_days-days.ensures) (sym (months-next c.args.year c.loop-m.m (omega arith)))

pub loop-m-init : goal.loop-m-init
unfolding days_of_months
loop-m-init c = (omega arith, refl)

pub overflow_add-days : goal.overflow_add-days
overflow_add-days c =
    let y = c.args.year in
    let m = c.loop-m.m in
    omega (arith, c.loop-m.invariant.1, c.month_days-days.ensures, months-at-most y (m - 1), month-between y m)

pub loop-m-preserved : goal.loop-m-preserved
loop-m-preserved c =
    let m = c.loop-m.m in
    let e : m + 1 - 1 ≡ m = omega arith in
    (omega arith, rw e (next (goal.at.loop-m-preserved c).After-month_days-days))

pub returns : goal.returns
returns c =
    let e : c.loop-m.m - 1 ≡ c.args.months = omega arith in
    rw (c.loop-m.invariant.1, e)

-- the last month
pub returns-2 : goal.returns-2
returns-2 c =
    let e : c.loop-m.m ≡ c.args.months = omega arith in
    rw e at (next (goal.at.returns-2 c).After-month_days-days)
