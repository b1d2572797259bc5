-- WHAT A DATA FILE IS and which rows it has. Read second; no reader stands here.
use Rattle.std.specs.Prelude.{◌≡◌, ◌⊎◌, Bool, true, false, ◌&&◌, List, [], ◌∷◌, ◌++◌, ℕ, ◌+◌, ◌*◌, ◌/◌, ◌%◌, ◌^◌, ◌≤◌, ◌<◌, eqb, ltb, ℤ, pos, ◌+ℤ◌, length, get_or, ◌≤ℤ◌, if◌then◌else◌}
use Rattle.ground.specs.Quoted.{quoted}
use Rattle.ground.specs.Tables.{part, cat}
use Rattle.model.specs.declared.Kind.{Kind}
use Rattle.model.specs.declared.Kind.TheVariants.{Ascii, Binary, Binary32}
use Rattle.model.specs.declared.Edition.{Edition}
use Rattle.model.specs.declared.Edition.TheVariants.{Y2013, Y1999}
use Rattle.model.specs.declared.Layout.{Layout}
use Rattle.model.specs.declared.Row.{Row}
use Rattle.std.specs.Prelude.{None, Option, Some}
use Rattle.model.specs.Kinds.{width_of, lowest_of, highest_of}
use Rattle.model.specs.Editions.{has_kind}
use Rattle.model.specs.Layouts.{Sized}
use Rattle.model.specs.Samples.{sample_of}
use Rattle.model.specs.Rows.{latest_time, trimmed}
use Rattle.paper.specs.Fields.{CountField, WholeField}
use Rattle.paper.specs.Lines.{Line, ended, Fields}

-- a number within the range of the layout's kind and edition
pub record InRange (l : Layout) (z : ℤ) : Type 0 where
  pub low : lowest_of l.kind l.edition ≤ℤ z
  pub high : z ≤ℤ highest_of l.kind l.edition

-- what a row says of its analog channel i, counted from 0: a sample, or that it is missing
abbrev pub row_sample : Row → ℕ → Option ℤ
row_sample r i = sample_of (get_or r.samples i (pos 0))

-- status i of a row, counted from 0
abbrev pub status_of : Row → ℕ → Bool
status_of r i = get_or r.statuses i false

-- TEXT
-- the text of a missing sample: an empty field; in 1999 the whole number 99999, however it is written
abbrev pub MissingText : Edition → List ℕ → Type 0
MissingText Y2013 f = f ≡ []
MissingText Y1999 f = WholeField (pos 99999) f

-- a sample in text: a whole number of 1 to 13 characters within the range; or the text of a missing one
abbrev pub SampleField : Layout → Option ℤ → List ℕ → Type 0
SampleField l (Some z) f = WholeField z f × InRange l z
SampleField l None f = MissingText l.edition f

-- the line of row n, which is r: number, timestamp, A samples, D statuses; r is zero past them
pub record TextLine (l : Layout) (n : ℕ) (r : Row) (line : List ℕ) : Type 0 where
  pub f : ℕ → List ℕ
  pub fields : Fields (2 + l.analogs + l.statuses) f line
  pub number : CountField 10 n (f 1)
  pub time : CountField 13 r.time (f 2)
  pub early : r.time ≤ latest_time
  pub samples : (i : ℕ) → i < l.analogs → SampleField l (row_sample r i) (f (3 + i))
  pub statuses : (i : ℕ) → i < l.statuses → f (3 + l.analogs + i) ≡ (if status_of r i then quoted "1" else quoted "0")
  pub beyond : trimmed l r ≡ r

-- what may follow the last row: nothing, 1A, or 1A 0D 0A
abbrev pub TextEnding : List ℕ → Type 0
TextEnding e = (e ≡ []) ⊎ ((e ≡ 26 ∷ []) ⊎ (e ≡ 26 ∷ quoted "\r\n"))

-- a text whose rows are r 0, r 1, ..: a line for each, with CR LF, and after the last one of these endings
pub record TextFile (l : Layout) (r : ℕ → Row) (s : List ℕ) : Type 0 where
  pub line : ℕ → List ℕ
  pub end : List ℕ
  pub whole : s ≡ cat (λ i. ended (line i)) l.rows ++ end
  pub each : (i : ℕ) → i < l.rows → Line (TextLine l (i + 1) (r i)) (line i)
  pub short : (i : ℕ) → i < l.rows → length (line i) ≤ 1880
  pub ends : TextEnding end

-- THE BINARY KINDS
-- the number that bytes hold, low byte first
abbrev pub low_first : List ℕ → ℕ
low_first [] = 0
low_first (b ∷ l) = b + 256 * low_first l

-- v, of w bytes, is z in two's complement
abbrev pub TwosComplement : ℕ → ℕ → ℤ → Type 0
TwosComplement w v z = ((pos v ≡ z) × (v < 256 ^ w / 2)) ⊎ ((pos v ≡ z +ℤ pos (256 ^ w)) × (256 ^ w / 2 ≤ v))

-- v, of w bytes, is a sample: in two's complement; the lowest pattern, 8000 or 80000000 hex, is a missing one and nothing else
abbrev pub SampleWord : ℕ → ℕ → Option ℤ → Type 0
SampleWord w v (Some z) = (v ≡ 256 ^ w / 2 → ⊥) × TwosComplement w v z
SampleWord w v None = v ≡ 256 ^ w / 2

-- how many words hold the statuses: D / 16 rounded up
abbrev pub word_count : Layout → ℕ
word_count l = (l.statuses + 15) / 16

-- where the samples end and the status words begin
abbrev pub samples_end : Layout → ℕ
samples_end l = 8 + l.analogs * width_of l.kind

-- how many bytes a row has: number and timestamp, samples, status words
abbrev pub row_size : Layout → ℕ
row_size l = samples_end l + 2 * word_count l

-- bit k of v is on
abbrev pub is_on : ℕ → ℕ → Bool
is_on k v = eqb (v / 2 ^ k % 2) 1

-- status word j of a row's bytes
abbrev pub status_word : Layout → ℕ → List ℕ → ℕ
status_word l j b = low_first (part (samples_end l + 2 * j) (samples_end l + 2 * j + 2) b)

-- the bytes of row n, which is r: number, timestamp, A samples, status words, of which bit 0 of the first is status 1 and bits past D are zero; r is zero past A and D
pub record BinaryRow (l : Layout) (n : ℕ) (r : Row) (b : List ℕ) : Type 0 where
  pub size : length b ≡ row_size l
  pub number : low_first (part 0 4 b) ≡ n
  pub time : low_first (part 4 8 b) ≡ r.time
  pub samples : (i : ℕ) → i < l.analogs → SampleWord (width_of l.kind) (low_first (part (8 + i * width_of l.kind) (8 + i * width_of l.kind + width_of l.kind) b)) (row_sample r i)
  pub statuses : (i : ℕ) → i < 16 * word_count l → is_on (i % 16) (status_word l (i / 16) b) ≡ (ltb i l.statuses && status_of r i)
  pub beyond : trimmed l r ≡ r

-- a file of a binary kind whose rows are r 0, r 1, ..: their bytes, and nothing else
pub record BinaryFile (l : Layout) (r : ℕ → Row) (s : List ℕ) : Type 0 where
  pub bytes : ℕ → List ℕ
  pub whole : s ≡ cat bytes l.rows
  pub each : (i : ℕ) → i < l.rows → BinaryRow l (i + 1) (r i) (bytes i)

-- ALL KINDS
-- a layout that is allowed: within the sizes, and of a kind that its edition has
abbrev pub Allowed : Layout → Type 0
Allowed l = Sized l × (has_kind l.edition l.kind ≡ true)

-- a data file of a kind
abbrev pub FileOf : Kind → Layout → (ℕ → Row) → List ℕ → Type 0
FileOf Ascii l r s = TextFile l r s
FileOf Binary l r s = BinaryFile l r s
FileOf Binary32 l r s = BinaryFile l r s

-- the data file s of a layout, whose rows are r 0, r 1, ..
abbrev pub DataFile : Layout → (ℕ → Row) → List ℕ → Type 0
DataFile l r s = FileOf l.kind l r s
