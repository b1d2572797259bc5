-- The editions of the standard: the year by which a configuration names its edition, and the kinds that each has.
use Rattle.std.specs.Prelude.{Bool, true, false, ℕ, eqb, if◌then◌else◌}
use Rattle.model.specs.declared.Kind.{Kind}
use Rattle.model.specs.declared.Kind.TheVariants.{Ascii, Binary, Binary32}
use Rattle.model.specs.declared.Edition.{Edition}
use Rattle.model.specs.declared.Edition.TheVariants.{Y2013, Y1999}
use Rattle.std.specs.Prelude.{None, Option, Some}

-- the year of an edition
abbrev pub year_of : Edition → ℕ
year_of Y2013 = 2013
year_of Y1999 = 1999

-- the edition of a year
unfoldable pub edition_of : ℕ → Option Edition
edition_of y = if eqb y 2013 then Some Y2013 else if eqb y 1999 then Some Y1999 else None

-- the kinds that an edition has: ASCII and binary in 1999
unfoldable pub has_kind : Edition → Kind → Bool
has_kind Y2013 k = true
has_kind Y1999 Ascii = true
has_kind Y1999 Binary = true
has_kind Y1999 Binary32 = false
