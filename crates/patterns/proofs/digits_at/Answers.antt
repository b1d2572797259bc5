-- `digits_at` meets its contract: nine digits have a value that fits.
use mathlib.Core.Path.{◌≡◌}
use native.Mathlib.Omega.{arith}
use Rattle.patterns.specs.Patterns.{digits_at}
use Rattle.patterns.proofs.PatternLaws.{digits_lt}
use Rattle.patterns.proofs.digits_at.Goals as goal
use Rattle.patterns.proofs.digits_at.Goals.{In-Some}

-- what was read is the value
told : (c : In-Some)
    → (c.in-Some.v ≡ digits_at c.args.from c.args.to c.args.s.now)
unfolding digits_at
told c = rw (← c.number_of-count.ensures, c.in-Some.is)

pub overflow_cast-result : goal.overflow_cast-result
overflow_cast-result c =
    omega (arith, told c, digits_lt c.args.from c.args.to 9 c.args.s.now (omega arith))

pub returns-in-Some : goal.returns-in-Some
returns-in-Some c = told c

pub returns-in-None : goal.returns-in-None
unfolding digits_at
returns-in-None c = rw (← c.number_of-count.ensures, c.in-None.is)
