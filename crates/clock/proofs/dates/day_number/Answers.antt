-- `day_number` meets its contract: the days of 9999 years fit.
use native.Mathlib.Omega.{arith}
use Prim.Native.Nat.{◌-◌, ◌+◌, ◌<◌}
use Rattle.clock.proofs.DateLaws.{date-bounds, month-between, months-at-most, years-at-most}
use Rattle.clock.proofs.dates.day_number.Goals as goal
use Rattle.clock.proofs.dates.day_number.Goals.{After-days_of_months-months}

pub overflow_sub-date : goal.overflow_sub-date
overflow_sub-date c = omega (arith, date-bounds c.args.date c.requires)

pub days_of_years-years-requires : goal.days_of_years-years-requires
days_of_years-years-requires c = omega (arith, date-bounds c.args.date c.requires)

pub overflow_sub-date-2 : goal.overflow_sub-date-2
overflow_sub-date-2 c = omega (arith, date-bounds c.args.date c.requires)

pub days_of_months-months-requires : goal.days_of_months-months-requires
days_of_months-months-requires c = omega (arith, date-bounds c.args.date c.requires)

-- the years and months before have fewer than 3,700,000 days
few : (c : After-days_of_months-months) → c.days_of_years-years.result + c.days_of_months-months.result < 3700000
few c =
    let x = c.args.date in
    let b = date-bounds x c.requires in
    omega (arith, c.days_of_years-years.ensures, c.days_of_months-months.ensures, years-at-most (x.year - 1), months-at-most x.year (x.month - 1))

pub overflow_add-years : goal.overflow_add-years
overflow_add-years c = omega (arith, few c)

pub overflow_add-years-2 : goal.overflow_add-years-2
overflow_add-years-2 c =
    omega (arith, few (goal.at.overflow_add-years-2 c).After-days_of_months-months, date-bounds c.args.date c.requires, month-between c.args.date.year c.args.date.month)
