-- What is done with each line of a configuration that is written again, from the first to the last.
use Rattle.std.specs.Prelude.{List, [], ◌∷◌, ◌++◌, ℕ, max, replicate}
use Rattle.model.specs.declared.Edition.{Edition}
use Rattle.model.specs.declared.Edition.TheVariants.{Y2013, Y1999}
use Rattle.config_rules.specs.declared.Config.{Config}
use Rattle.rewrite_lines.specs.declared.LineSort.{LineSort}
use Rattle.rewrite_lines.specs.declared.LineSort.TheVariants.{Kept, Numbers, Analog, Status, Word}

-- the time codes and the time quality, which 1999 lacks
abbrev pub end_sorts : Edition → List LineSort
end_sorts Y2013 = Numbers ∷ Kept ∷ []
end_sorts Y1999 = []

-- the two dates, the kind, the time multiplier, and then those
abbrev pub last_sorts : Edition → List LineSort
last_sorts e = Kept ∷ Kept ∷ Word ∷ Numbers ∷ end_sorts e

-- the line frequency, the number of rates, a line for each, and then those
abbrev pub rate_sorts : Edition → ℕ → List LineSort
rate_sorts e rates = Numbers ∷ Numbers ∷ (replicate (max 1 rates) Numbers ++ last_sorts e)

-- the analog channels, the status channels, and then those
abbrev pub channel_sorts : Config → List LineSort
channel_sorts c = replicate c.layout.analogs Analog ++ (replicate c.layout.statuses Status ++ rate_sorts c.layout.edition c.rates)

-- the station; TT, A and D; and then those
unfoldable pub sorts : Config → List LineSort
sorts c = Kept ∷ Numbers ∷ channel_sorts c
