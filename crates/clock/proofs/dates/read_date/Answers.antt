-- `read_date` meets its contract.
use Rattle.patterns.specs.Patterns.{fits_pattern}
use mathlib.Core.Bool.{true}
use mathlib.Core.Path.{sym, ◌∙◌, ◌≡◌}
use Rattle.clock.specs.Dates.{date_pattern}
use Rattle.patterns.proofs.PatternLaws.{fits-length}
use Rattle.clock.proofs.dates.read_date.Goals as goal
use Rattle.clock.proofs.dates.read_date.Goals.{Else-is_zero_date, Else-not-fits_pattern}

-- the form is right
form : (c : Else-not-fits_pattern) → fits_pattern date_pattern c.args.field.now ≡ true
form c = sym c.fits_pattern.ensures ∙ c.if-not-fits_pattern.false

pub date_of-date-requires : goal.date_of-date-requires
date_of-date-requires c = fits-length date_pattern c.args.field.now (form c)
