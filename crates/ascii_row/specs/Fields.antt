-- Fields of a text row: what the characters of each say.
use Rattle.std.specs.Prelude.{Bool, true, false, ◌||◌, List, [], ◌∷◌, ℕ, eqb, leb, ℤ, pos, length, get_or, if◌then◌else◌}
use Rattle.std.specs.Prelude.{None, Option, Some}
use Rattle.numerals.specs.Counts.{read_count, count_in}
use Rattle.numerals.specs.Wholes.{read_whole}
use Rattle.model.specs.declared.Layout.{Layout}
use Rattle.model.specs.Samples.{missing, holds, marked, is_mark}
use Rattle.model.specs.Rows.{latest_time}

-- a count of at most so much; a larger one is bad
abbrev pub at_most : ℕ → Option ℕ → Option ℕ
at_most most (Some v) = if leb v most then Some v else None
at_most most None = None

-- a timestamp: 1 to 13 digits, no later than the latest
unfoldable pub read_timestamp : List ℕ → Option ℕ
read_timestamp f = at_most latest_time (read_count 1 13 f)

-- a whole number that is a sample of the layout; another is bad
abbrev pub in_range : Layout → Option ℤ → Option ℤ
in_range l (Some z) = if holds l z then Some z else None
in_range l None = None

-- a whole number that marks a missing sample
abbrev pub is_mark_in : Option ℤ → Bool
is_mark_in (Some z) = is_mark z
is_mark_in None = false

-- the field of a missing sample: an empty one; in a marked text a whole number that is the mark, however it is written
unfoldable pub is_missing_field : Layout → List ℕ → Bool
is_missing_field l f = if marked l then is_mark_in (read_whole f) else eqb (length f) 0

-- a sample: the field of a missing one; or 1 to 13 characters, an optional sign and digits, within the range
unfoldable pub read_sample : Layout → List ℕ → Option ℤ
read_sample l f = if is_missing_field l f then Some missing else in_range l (read_whole f)

-- a status: exactly 0 or 1
unfoldable pub is_status : List ℕ → Bool
is_status [] = false
is_status (b ∷ []) = eqb b 48 || eqb b 49
is_status (b ∷ c ∷ f) = false

-- whether a count was read
abbrev pub is_count : Option ℕ → Bool
is_count (Some v) = true
is_count None = false

-- whether a whole number was read
abbrev pub is_whole : Option ℤ → Bool
is_whole (Some z) = true
is_whole None = false

-- the whole number that was read
abbrev pub whole_in : Option ℤ → ℤ
whole_in (Some z) = z
whole_in None = pos 0

-- the timestamp of a field
unfoldable pub time_in : List ℕ → ℕ
time_in f = count_in (read_timestamp f)

-- the sample of a field
unfoldable pub sample_in : Layout → List ℕ → ℤ
sample_in l f = whole_in (read_sample l f)

-- the status of a field
unfoldable pub status_in : List ℕ → Bool
status_in f = eqb (get_or f 0 0) 49
