-- NOTHING TO BELIEVE HERE: what the writers of a row ask first, and what laws of plain texts cite. The law `length-text` (proofs/LengthLaws.antt) says that `text_length` is the length of the row's text.
use Rattle.std.specs.Prelude.{Bool, ◌||◌, List, ℕ, zero, suc, ◌+◌, ◌*◌, eqb, ℤ, pos, length, get_or, if◌then◌else◌}
use Rattle.numerals.specs.Decimals.{decimal, is_plain}
use Rattle.model.specs.declared.Layout.{Layout}
use Rattle.model.specs.Samples.{marked}
use Rattle.model.specs.declared.Row.{Row}
use Rattle.ascii_plain.specs.Rows.{sample_chars}

-- how many characters number and timestamp take
abbrev pub head_length : ℕ → ℕ → ℕ
head_length n time = length (decimal n) + (1 + length (decimal time))

-- how many characters the first a samples take, each with its comma
abbrev pub samples_length : Layout → List ℤ → ℕ → ℕ
samples_length l zs zero = 0
samples_length l zs (suc a) = samples_length l zs a + (1 + length (sample_chars l (get_or zs a (pos 0))))

-- how many bytes a plain row takes with this timestamp and these samples
unfoldable pub length_by : Layout → ℕ → ℕ → List ℤ → ℕ
length_by l n time zs = head_length n time + (samples_length l zs l.analogs + (2 * l.statuses + 2))

-- how many bytes the plain written row takes
abbrev pub text_length : Layout → ℕ → Row → ℕ
text_length l n r = length_by l n r.time r.samples

-- a sample's field is plain: a plain whole number; or empty, but in no marked text
unfoldable pub is_plain_sample : Layout → List ℕ → Bool
is_plain_sample l f = if marked l then is_plain f else (eqb (length f) 0 || is_plain f)
