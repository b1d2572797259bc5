-- What an accepted configuration shows, as places.
use Rattle.std.specs.Prelude.{List, [], ◌∷◌, ◌++◌, ℕ, ℤ, pos, get_or}
use Rattle.ground.specs.Tables.{tab}
use Rattle.clock.specs.declared.Moment.{Moment}
use Rattle.std.specs.Prelude.{None, Option, Some}
use Rattle.config_rules.specs.declared.LastLines.{LastLines}
use Rattle.clock.specs.declared.Span.{Span}
use Rattle.model.specs.declared.Kind.{Kind}
use Rattle.model.specs.Kinds.{kind_number}
use Rattle.model.specs.Editions.{year_of}
use Rattle.model.specs.Samples.{none}
use Rattle.config_rules.specs.declared.Config.{Config}
use Rattle.row_places.specs.Rows.{bool_place}

-- channels, rates and rows
abbrev pub count_places : Config → List ℤ
count_places c = pos c.layout.analogs ∷ pos c.layout.statuses ∷ pos c.rates ∷ pos c.layout.rows ∷ []

-- the last rows, 0 where there is none
abbrev pub last_places : List ℕ → List ℤ
last_places lasts = tab (λ i. pos (get_or lasts i 0)) 8

-- year, month, day, hour, minute, second, nanosecond
abbrev pub moment_places : Moment → List ℤ
moment_places m =
    pos m.date.year
    ∷ pos m.date.month
    ∷ pos m.date.day
    ∷ pos m.time.hour
    ∷ pos m.time.minute
    ∷ pos m.time.second
    ∷ pos m.time.nanosecond
    ∷ []

-- those of a date line; "there is none" for each where it has no date
abbrev pub stamp_places : Option Moment → List ℤ
stamp_places (Some m) = moment_places m
stamp_places None = none ∷ none ∷ none ∷ none ∷ none ∷ none ∷ none ∷ []

-- pre-trigger seconds and nanoseconds; "there is none" for each where the time is unknown
abbrev pub pretrigger_places : Option Span → List ℤ
pretrigger_places (Some p) = p.seconds ∷ pos p.nanoseconds ∷ []
pretrigger_places None = none ∷ none ∷ []

-- time code, whether the local code is x, local code, quality, leap code; "there is none" for each where the lines are absent
abbrev pub end_places : Option LastLines → List ℤ
end_places (Some e) = e.code ∷ bool_place e.x ∷ e.local ∷ pos e.quality ∷ pos e.leap ∷ []
end_places None = none ∷ none ∷ none ∷ none ∷ none ∷ []

-- pre-trigger seconds and nanoseconds, kind
abbrev pub start_places : Option Span → Kind → List ℤ
start_places p k = pretrigger_places p ++ (pos (kind_number k) ∷ [])

-- those; what the last lines say; the edition's year
abbrev pub other_places : Config → List ℤ
other_places c = start_places c.pretrigger c.layout.kind ++ (end_places c.last ++ (pos (year_of c.layout.edition) ∷ []))

-- the 35 places of a configuration
unfoldable pub config_places : Config → List ℤ
config_places c = (count_places c ++ last_places c.lasts) ++ ((stamp_places c.first ++ stamp_places c.trigger) ++ other_places c)
