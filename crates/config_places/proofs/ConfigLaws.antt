-- Laws of a configuration's places.
--     stamp-places          how many of them a date line has
--     pretrigger-places     how many the time before the trigger has
--     start-places          how many that and the kind have
--     end-places            how many the last lines have
--     config-places         how many places a configuration has
-- Assumes nothing.
use mathlib.Core.Path.{◌≡◌, refl}
use mathlib.Core.List.{[], ◌∷◌, ◌++◌}
use lib.IntN.{pos}
use lib.ListN.{length, length-append}
use Rattle.std.proofs.Common.{None, Option, Some}
use Rattle.clock.specs.declared.Moment.{Moment}
use Rattle.config_rules.specs.declared.LastLines.{LastLines}
use Rattle.clock.specs.declared.Span.{Span}
use Rattle.model.specs.declared.Kind.{Kind}
use Rattle.model.specs.Editions.{year_of}
use Rattle.config_rules.specs.declared.Config.{Config}
use Rattle.config_places.specs.Configs.{stamp_places, pretrigger_places, start_places, end_places, other_places, config_places}

pub stamp-places : (v : Option Moment) → length (stamp_places v) ≡ 7
stamp-places (Some m) = refl
stamp-places None = refl

pub pretrigger-places : (v : Option Span) → length (pretrigger_places v) ≡ 2
pretrigger-places (Some p) = refl
pretrigger-places None = refl

pub start-places : (v : Option Span) (k : Kind) → length (start_places v k) ≡ 3
start-places v k = rw (length-append, pretrigger-places v)

pub end-places : (v : Option LastLines) → length (end_places v) ≡ 5
end-places (Some e) = refl
end-places None = refl

pub config-places : (c : Config) → length (config_places c) ≡ 35
unfolding config_places
config-places c =
    let e : length (end_places c.last ++ (pos (year_of c.layout.edition) ∷ [])) ≡ 6 = rw (length-append, end-places c.last) in
    let o : length (other_places c) ≡ 9 = rw (length-append, start-places c.pretrigger c.layout.kind, e) in
    let s : length (stamp_places c.first ++ stamp_places c.trigger) ≡ 14 = rw (length-append, stamp-places c.first, stamp-places c.trigger) in
    let r : length ((stamp_places c.first ++ stamp_places c.trigger) ++ other_places c) ≡ 23 = rw (length-append, s, o) in
    rw r
