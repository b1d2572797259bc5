-- Rows of the two binary kinds: the bytes that a row has.
use Rattle.std.specs.Prelude.{Bool, List, [], ◌∷◌, ◌++◌, ℕ, ◌+◌, ◌*◌, min, ℤ, pos, get_or, if◌then◌else◌}
use Rattle.ground.specs.Tables.{part, cat}
use Rattle.words.specs.Words.{word_bytes}
use Rattle.model.specs.declared.Layout.{Layout}
use Rattle.model.specs.declared.Row.{Row}
use Rattle.model.specs.Kinds.{width_of, half_of}
use Rattle.model.specs.Samples.{word_of_sample}
use Rattle.binary_row.specs.Rows.{words_of}

-- the bytes of sample i, of w bytes with half h
abbrev pub sample_bytes : ℕ → ℕ → List ℤ → ℕ → List ℕ
sample_bytes w h zs i = word_bytes w (word_of_sample h (get_or zs i (pos 0)))

-- the word of statuses: the first in the lowest bit
unfoldable pub packed : List Bool → ℕ
packed [] = 0
packed (b ∷ s) = (if b then 1 else 0) + 2 * packed s

-- where the statuses of word j, of d in all, end
abbrev pub word_end : ℕ → ℕ → ℕ
word_end d j = min (j * 16 + 16) d

-- the bytes of status word j of the first d statuses
abbrev pub word_bytes_at : ℕ → List Bool → ℕ → List ℕ
word_bytes_at d s j = word_bytes 2 (packed (part (j * 16) (word_end d j) s))

-- the bytes of the first a samples, of w bytes with half h
abbrev pub samples_bytes : ℕ → ℕ → ℕ → List ℤ → List ℕ
samples_bytes w h a zs = cat (sample_bytes w h zs) a

-- the bytes of the words of the first d statuses
abbrev pub words_bytes : ℕ → List Bool → List ℕ
words_bytes d s = cat (word_bytes_at d s) (words_of d)

-- the bytes of a row's number and timestamp
abbrev pub head_bytes : ℕ → ℕ → List ℕ
head_bytes n t = word_bytes 4 n ++ word_bytes 4 t

-- the bytes of a row with number n; its places past A and D are not read
unfoldable pub binary_of : Layout → ℕ → Row → List ℕ
binary_of l n r =
    head_bytes n r.time
    ++ (samples_bytes (width_of l.kind) (half_of l.kind) l.analogs r.samples ++ words_bytes l.statuses r.statuses)
