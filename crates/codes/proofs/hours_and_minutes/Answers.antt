-- `hours_and_minutes` meets its contract: each return is the first pattern that fits.
use mathlib.Core.Bool.{true}
use mathlib.Core.Path.{sym, ◌∙◌, ◌≡◌}
use native.Mathlib.Omega.{arith}
use Rattle.ground.specs.Quoted.{quoted}
use Rattle.patterns.specs.Patterns.{fits_pattern}
use Rattle.patterns.proofs.PatternLaws.{fits-length}
use Rattle.codes.proofs.hours_and_minutes.Goals as goal
use Rattle.codes.proofs.hours_and_minutes.Goals.{Else-fits_pattern, Then-fits_pattern, Then-fits_pattern-2}

-- which pattern fits_pattern, and which does not
first : (c : Then-fits_pattern) → fits_pattern (quoted "dhdd") c.args.s.now ≡ true
first c = sym c.fits_pattern.ensures ∙ c.if-fits_pattern.true

second : (c : Then-fits_pattern-2) → fits_pattern (quoted "ddhdd") c.args.s.now ≡ true
second c = sym c.fits_pattern-2.ensures ∙ c.if-fits_pattern-2.true

pub digits_at-requires : goal.digits_at-requires
digits_at-requires c = omega (arith, fits-length (quoted "dhdd") _ (first c))

pub digits_at-requires-then-fits_pattern : goal.digits_at-requires-then-fits_pattern
digits_at-requires-then-fits_pattern c = omega (arith, fits-length (quoted "dhdd") _ (first (goal.at.digits_at-requires-then-fits_pattern c).Then-fits_pattern))

pub digits_at-requires-then-fits_pattern-2 : goal.digits_at-requires-then-fits_pattern-2
digits_at-requires-then-fits_pattern-2 c = omega (arith, fits-length (quoted "ddhdd") _ (second c))

pub digits_at-requires-then-fits_pattern-2-2 : goal.digits_at-requires-then-fits_pattern-2-2
digits_at-requires-then-fits_pattern-2-2 c = omega (arith, fits-length (quoted "ddhdd") _ (second (goal.at.digits_at-requires-then-fits_pattern-2-2 c).Then-fits_pattern-2))
