-- `minutes_of` meets its contract: hours and minutes are judged apart.
use Rattle.patterns.specs.Patterns.{between}
use mathlib.Core.Bool.{true}
use mathlib.Core.Path.{sym, ◌∙◌, ◌≡◌}
use Rattle.patterns.proofs.PatternLaws.{between-bounds}
use Rattle.codes.proofs.minutes_of.Goals as goal
use Rattle.codes.proofs.minutes_of.Goals.{Else-not-between, Else-not-between-2}

-- the hours, and then the minutes, are within their bounds
hours-in : (c : Else-not-between) → between 0 14 c.args.hours ≡ true
hours-in c = sym c.between.ensures ∙ c.if-not-between.false

minutes-in : (c : Else-not-between-2) → between 0 59 c.args.minutes ≡ true
minutes-in c = sym c.between-2.ensures ∙ c.if-not-between-2.false

pub signed_minutes-requires : goal.signed_minutes-requires
signed_minutes-requires c = ((between-bounds 0 14 _ (hours-in (goal.at.signed_minutes-requires c).Else-not-between)).1, (between-bounds 0 59 _ (minutes-in c)).1)
