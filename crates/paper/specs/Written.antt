-- WHAT WRITTEN ROWS, PLAIN TEXTS AND A CHANGE OF KIND ARE HELD AGAINST. Read after Data; neither a reader nor a writer stands here.
use Rattle.std.specs.Prelude.{◌≡◌, ◌⊎◌, true, List, [], ◌∷◌, ◌++◌, ℕ, ◌+◌, ◌-◌, ◌*◌, ◌≤◌, ◌<◌, ℤ, length, get_or, ◌<ℤ◌}
use Rattle.ground.specs.Quoted.{quoted}
use Rattle.ground.specs.Tables.{cat, every}
use Rattle.model.specs.declared.Kind.{Kind}
use Rattle.model.specs.declared.Kind.TheVariants.{Ascii, Binary, Binary32}
use Rattle.model.specs.declared.Edition.{Edition}
use Rattle.model.specs.declared.Edition.TheVariants.{Y2013, Y1999}
use Rattle.model.specs.declared.Layout.{Layout}
use Rattle.model.specs.declared.Row.{Row}
use Rattle.std.specs.Prelude.{None, Option, Some}
use Rattle.model.specs.Kinds.{lowest_of, highest_of}
use Rattle.model.specs.Layouts.{in_kind}
use Rattle.model.specs.Rows.{latest_time}
use Rattle.paper.specs.Fields.{is_between, SomeDigits}
use Rattle.paper.specs.Lines.{Line, ended, Fields}
use Rattle.paper.specs.Data.{InRange, row_sample, TextEnding, TextFile, row_size}

-- WRITTEN ROWS
-- a sample that fits a layout: it is in the range, or missing
abbrev pub FitsIn : Layout → Option ℤ → Type 0
FitsIn l (Some z) = InRange l z
FitsIn l None = Unit {0}

-- a row that fits a layout: its timestamp has 32 bits, and each of its A samples fits
pub record Fitting (l : Layout) (r : Row) : Type 0 where
  pub early : r.time ≤ latest_time
  pub samples : (i : ℕ) → i < l.analogs → FitsIn l (row_sample r i)

-- t is m rows of a file of a kind: m lines with CR LF, or m times the bytes of a row
abbrev pub RowsOf : Kind → Layout → ℕ → List ℕ → Type 0
RowsOf Ascii l m t = (line : ℕ → List ℕ) × (t ≡ cat (λ i. ended (line i)) m) × ((i : ℕ) → i < m → every (is_between 32 126) (line i) ≡ true)
RowsOf Binary l m t = length t ≡ m * row_size l
RowsOf Binary32 l m t = length t ≡ m * row_size l

-- the bytes b stand in the file s as row n: n - 1 rows are before them
pub record Stands (l : Layout) (n : ℕ) (b s : List ℕ) : Type 0 where
  pub before : List ℕ
  pub after : List ℕ
  pub whole : s ≡ before ++ (b ++ after)
  pub rows : RowsOf l.kind l (n - 1) before

-- what may follow the last row of a file of a kind
abbrev pub EndingOf : Kind → List ℕ → Type 0
EndingOf Ascii e = TextEnding e
EndingOf Binary e = e ≡ []
EndingOf Binary32 e = e ≡ []

-- PLAIN TEXTS
-- a plain count: digits and nothing else, the first of them no 0 where there are more
pub record PlainCount (f : List ℕ) : Type 0 where
  pub number : SomeDigits f
  pub needed : 2 ≤ length f → get_or f 0 0 ≡ 48 → ⊥

-- a plain whole number: a plain count, or a minus and one that is not 0
abbrev pub PlainWhole : List ℕ → Type 0
PlainWhole f = PlainCount f ⊎ ((d : List ℕ) × (f ≡ quoted "-" ++ d) × PlainCount d × (d ≡ quoted "0" → ⊥))

-- a plain sample: a plain whole number; in 2013 nothing, too, for a missing one
abbrev pub PlainSample : Edition → List ℕ → Type 0
PlainSample Y2013 f = PlainWhole f ⊎ (f ≡ [])
PlainSample Y1999 f = PlainWhole f

-- a plain line: its number, its timestamp and its samples are plain
pub record PlainLine (l : Layout) (line : List ℕ) : Type 0 where
  pub f : ℕ → List ℕ
  pub fields : Fields (2 + l.analogs + l.statuses) f line
  pub number : PlainCount (f 1)
  pub time : PlainCount (f 2)
  pub samples : (i : ℕ) → i < l.analogs → PlainSample l.edition (f (3 + i))

-- a plain text: such a line for each row, with CR LF, and 1A 0D 0A after the last
pub record PlainText (l : Layout) (s : List ℕ) : Type 0 where
  pub line : ℕ → List ℕ
  pub whole : s ≡ cat (λ i. ended (line i)) l.rows ++ 26 ∷ quoted "\r\n"
  pub each : (i : ℕ) → i < l.rows → Line (PlainLine l) (line i)

-- t is what a change back gives of a file s of a kind whose rows are r 0, r 1, ..: the plain text with these rows, or s itself
abbrev pub Restored : Kind → Layout → (ℕ → Row) → List ℕ → List ℕ → Type 0
Restored Ascii l r s t = TextFile l r t × PlainText l t
Restored Binary l r s t = t ≡ s
Restored Binary32 l r s t = t ≡ s

-- THE CHANGE OF KIND
-- every sample of every row is in the range of kind k, or missing
abbrev pub AllInRange : Layout → Kind → (ℕ → Row) → Type 0
AllInRange l k r = (i j : ℕ) → i < l.rows → j < l.analogs → FitsIn (in_kind k l) (row_sample (r i) j)

-- sample j of row i, both counted from 0, is the first that is outside the range of kind k: it is there, it is below the lowest or above the highest, no row before has one, and row i none before it
pub record FirstOutside (l : Layout) (k : Kind) (r : ℕ → Row) (i j : ℕ) : Type 0 where
  pub row : i < l.rows
  pub sample : j < l.analogs
  pub number : ℤ
  pub there : row_sample (r i) j ≡ Some number
  pub outside : (number <ℤ lowest_of k l.edition) ⊎ (highest_of k l.edition <ℤ number)
  pub rows_before : (p q : ℕ) → p < i → q < l.analogs → FitsIn (in_kind k l) (row_sample (r p) q)
  pub samples_before : (q : ℕ) → q < j → FitsIn (in_kind k l) (row_sample (r i) q)
