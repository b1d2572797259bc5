-- NOTHING TO BELIEVE HERE: no contract of a public call cites this. Law `row-recoded` (crates/recode/proofs/RowLaws.antt) says that samples that are recoded are those of the row.
-- A sample goes through three definitions alone: the place that bytes say, whether it can be written, and the bytes of a place.
use Rattle.std.specs.Prelude.{◌≡◌, Bool, List, ℕ, zero, suc, ◌+◌, ◌*◌, ℤ, if◌then◌else◌}
use Rattle.ground.specs.Tables.{part, tab, cat}
use Rattle.words.specs.Words.{word_of, word_bytes}
use Rattle.model.specs.declared.Kind.{Kind}
use Rattle.model.specs.declared.Kind.TheVariants.{Binary, Binary32}
use Rattle.model.specs.declared.Edition.TheVariants.{Y2013}
use Rattle.model.specs.declared.Layout.{Layout}
use Rattle.model.specs.Kinds.{width_of, half_of}
use Rattle.model.specs.Rows.{misfit}
use Rattle.model.specs.Samples.{fits, sample_of_word, word_of_sample}

-- the place that bytes say in a kind
abbrev pub decoded : Kind → List ℕ → ℤ
decoded k b = sample_of_word (half_of k) (word_of b)

-- the bytes of a place in a kind
abbrev pub encoded : Kind → ℤ → List ℕ
encoded k z = word_bytes (width_of k) (word_of_sample (half_of k) z)

-- the bytes of sample i among samples of a kind
abbrev pub bytes_at : Kind → List ℕ → ℕ → List ℕ
bytes_at k b i = part (i * width_of k) (i * width_of k + width_of k) b

-- a samples of kind k, as places
abbrev pub samples_in : Kind → ℕ → List ℕ → List ℤ
samples_in k a b = tab (λ i. decoded k (bytes_at k b i)) a

-- the bytes of a sample of kind k, in kind m
unfoldable pub recoded : Kind → Kind → List ℕ → List ℕ
recoded k m b = encoded m (decoded k b)

-- the bytes of a samples of kind k, in kind m
unfoldable pub recoded_all : Kind → Kind → ℕ → List ℕ → List ℕ
recoded_all k m a b = cat (λ i. recoded k m (bytes_at k b i)) a

-- a layout of 16 bits with a analog channels, in either edition
abbrev pub short : ℕ → Layout
short a = record { analogs = a; statuses = 0; rows = 1; kind = Binary; edition = Y2013 }

-- a number of 32 bits says what fits in 16
abbrev pub is_short : ℕ → Bool
is_short n = fits (short 1) (sample_of_word (half_of Binary32) n)

-- whether a sample of 32 bits does not fit in 16: 1 or 0
unfoldable pub stray_of : List ℕ → ℕ
stray_of b = if is_short (word_of b) then 0 else 1

-- how many of a samples of 32 bits do not
unfoldable pub strays_of : List ℕ → ℕ → ℕ
strays_of b zero = 0
strays_of b (suc a) = strays_of b a + stray_of (bytes_at Binary32 b a)

-- the first of a samples of 32 bits that does not fit in 16, or a
unfoldable pub first_stray : ℕ → List ℕ → ℕ
first_stray a b = misfit (short a) (samples_in Binary32 a b)

-- each of a samples of 32 bits fits in 16
abbrev pub NoStray : ℕ → List ℕ → Type 0
NoStray a b = first_stray a b ≡ a
