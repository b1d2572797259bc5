-- What a place of a row says of its analog channel: a sample, or that it is missing.
use Rattle.std.specs.Prelude.{Bool, true, false, not, ◌&&◌, ◌||◌, ℕ, eqb, ℤ, pos, negsuc, if◌then◌else◌}
use Rattle.std.specs.Int.Signed.{lt_z}
use Rattle.words.specs.Signed.{signed_of, unsigned_of, is_lowest}
use Rattle.model.specs.declared.Kind.{Kind}
use Rattle.model.specs.declared.Kind.TheVariants.{Ascii, Binary, Binary32}
use Rattle.model.specs.declared.Edition.{Edition}
use Rattle.model.specs.declared.Edition.TheVariants.{Y2013, Y1999}
use Rattle.model.specs.declared.Layout.{Layout}
use Rattle.std.specs.Prelude.{None, Option, Some}
use Rattle.model.specs.Kinds.{lowest_of, highest_of}

-- the place of a missing sample: the lowest number of 32 bits, which is no sample of any kind
abbrev pub missing : ℤ
missing = negsuc 2147483647

-- a place is that one
unfoldable pub is_missing : ℤ → Bool
is_missing z = is_lowest 2147483647 z

-- the number for "there is none": the lowest of 64 bits
abbrev pub none : ℤ
none = negsuc 9223372036854775807

-- a number is that one
unfoldable pub is_none : ℤ → Bool
is_none z = is_lowest 9223372036854775807 z

-- what a place says
unfoldable pub sample_of : ℤ → Option ℤ
sample_of z = if is_missing z then None else Some z

-- a number that is a sample of the layout: not outside the range of its kind and edition
unfoldable pub holds : Layout → ℤ → Bool
holds l z = not (lt_z z (lowest_of l.kind l.edition)) && not (lt_z (highest_of l.kind l.edition) z)

-- a place that can be written in the layout: missing, or a sample of it
unfoldable pub fits : Layout → ℤ → Bool
fits l z = is_missing z || holds l z

-- the place that a number says, of which h is half: h itself, 8000 or 80000000 hex, is kept for a missing sample
unfoldable pub sample_of_word : ℕ → ℕ → ℤ
sample_of_word h n = if eqb n h then missing else signed_of h n

-- the number that a place is written as
unfoldable pub word_of_sample : ℕ → ℤ → ℕ
word_of_sample h z = if is_missing z then h else unsigned_of h z

-- a text that marks a missing sample by a number, and has no empty field: that of 1999
abbrev pub marked_in : Kind → Edition → Bool
marked_in Ascii Y2013 = false
marked_in Ascii Y1999 = true
marked_in Binary e = false
marked_in Binary32 e = false

-- a layout of such a text
unfoldable pub marked : Layout → Bool
marked l = marked_in l.kind l.edition

-- the number that marks it is 99999
unfoldable pub is_mark : ℤ → Bool
is_mark (pos n) = eqb n 99999
is_mark (negsuc n) = false
