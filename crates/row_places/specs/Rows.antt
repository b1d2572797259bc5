-- A row as places: its time, its samples, its statuses, each a whole number; a missing sample is the number for "there is none".
use Rattle.std.specs.Prelude.{Bool, not, ◌&&◌, ◌||◌, List, ◌∷◌, ◌++◌, ℕ, ◌+◌, ltb, leb, ℤ, pos, nat_abs, get_or, if◌then◌else◌}
use Rattle.std.proofs.Math.Bool as bool
use Rattle.std.specs.Int.Signed.{lt_z}
use Rattle.std.specs.Option.{unwrap_or}
use Rattle.ground.specs.Search.{first_fail}
use Rattle.ground.specs.Tables.{tab, padded}
use Rattle.model.specs.declared.Layout.{Layout}
use Rattle.model.specs.declared.Row.{Row}
use Rattle.model.specs.Samples.{missing, none, is_none, sample_of, holds}
use Rattle.model.specs.Rows.{latest_time}

-- how many places a row has
abbrev pub places_of : Layout → ℕ
places_of l = 1 + l.analogs + l.statuses

-- a truth value as a place: 0 or 1
abbrev pub bool_place : Bool → ℤ
bool_place on = if on then pos 1 else pos 0

-- a sample as a place: its number, or "there is none" where it is missing
unfoldable pub sample_place : ℤ → ℤ
sample_place z = unwrap_or (sample_of z) none

-- a place as a sample: missing where there is none
unfoldable pub place_sample : ℤ → ℤ
place_sample z = if is_none z then missing else z

-- the places of a row: time, A samples, D statuses
unfoldable pub row_places : Layout → Row → List ℤ
row_places l r =
    pos r.time
    ∷ (tab (λ i. sample_place (get_or r.samples i (pos 0))) l.analogs ++ tab (λ i. bool_place (get_or r.statuses i bool.false)) l.statuses)

-- a number from 0 to this one
unfoldable pub up_to : ℤ → ℤ → Bool
up_to most z = not (lt_z z (pos 0)) && not (lt_z most z)

-- the place of a sample may hold z: there is none, or it is a sample of the layout
unfoldable pub fits_sample : Layout → ℤ → Bool
fits_sample l z = is_none z || holds l z

-- place i may hold z: the time is a number of 32 bits, a sample fits or is missing, a status is 0 or 1
unfoldable pub fits_place : Layout → ℕ → ℤ → Bool
fits_place l i z =
    if ltb i 1 then up_to (pos latest_time) z
    else if leb i l.analogs then fits_sample l z
    else up_to (pos 1) z

-- the first place of a row that does not fit, or their number
unfoldable pub unfit : Layout → List ℤ → ℕ
unfit l zs = first_fail (λ i. fits_place l i (get_or zs i (pos 0))) (places_of l)

-- the row that places say
unfoldable pub row_of_places : Layout → List ℤ → Row
row_of_places l zs =
    record {
      time = nat_abs (get_or zs 0 (pos 0));
      samples = padded (λ i. place_sample (get_or zs (1 + i) (pos 0))) l.analogs 96 (pos 0);
      statuses = padded (λ i. lt_z (pos 0) (get_or zs (1 + l.analogs + i) (pos 0))) l.statuses 256 bool.false;
    }
