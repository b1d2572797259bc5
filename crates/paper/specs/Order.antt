-- WHICH LINE IS DUE after the lines before it, and at which line a file first fails. For refusals alone: a configuration is told in Configuration. No reader stands here.
use Rattle.std.specs.Prelude.{◌≡◌, ◌⊎◌, Bool, List, [], ◌++◌, ℕ, zero, suc, ◌+◌, ◌-◌, max, ℤ}
use Rattle.model.specs.declared.Kind.{Kind}
use Rattle.model.specs.declared.Edition.{Edition}
use Rattle.model.specs.declared.Edition.TheVariants.{Y2013, Y1999}
use Rattle.std.specs.Prelude.{Option}
use Rattle.clock.specs.declared.Moment.{Moment}
use Rattle.paper.specs.Lines.{Line, ended, StationLine, ChannelsLine, AnalogLine, StatusLine, FrequencyLine, RatesLine}
use Rattle.paper.specs.Lines.{rate_sign, RateLine, StampLine, KindLine, MultiplierLine, CodesLine, QualityLine}

-- the line that is due; after the first line by the edition that it named
pub data Due : Type 0 where
  station : Due
  channels : Edition → Due
  -- that of channel i, with m more of these after it, and D status lines then
  analog : Edition → ℕ → ℕ → ℕ → Due
  -- that of channel i, with m more after it
  status : Edition → ℕ → ℕ → Due
  frequency : Edition → Due
  rates : Edition → Due
  -- one of n rates, with m more after it, and the last row before it
  rate : Edition → ℕ → ℕ → ℕ → Due
  first : Edition → Due
  trigger : Edition → Due
  kind : Edition → Due
  multiplier : Edition → Due
  codes : Due
  quality : Due
  -- no more
  nothing : Due

-- m lines of status channels, the first of them i
abbrev pub status_due : Edition → ℕ → ℕ → Due
status_due e i zero = frequency e
status_due e i (suc m) = status e i m

-- m lines of analog channels, the first of them i, and then d of status channels
abbrev pub analog_due : Edition → ℕ → ℕ → ℕ → Due
analog_due e i zero d = status_due e 1 d
analog_due e i (suc m) d = analog e i m d

-- m lines of n rates, above a last row
abbrev pub rate_due : Edition → ℕ → ℕ → ℕ → Due
rate_due e n zero before = first e
rate_due e n (suc m) before = rate e n m before

-- what is due after the time multiplier: 1999 ends with it
abbrev pub end_due : Edition → Due
end_due Y2013 = codes
end_due Y1999 = nothing

-- the line l is right where x is due, and then y is due
abbrev pub Right : Due → List ℕ → Due → Type 0
Right station l y = (e : Edition) × Line (StationLine e) l × (y ≡ channels e)
Right (channels e) l y = (a : ℕ) × (d : ℕ) × Line (ChannelsLine a d) l × (y ≡ analog_due e 1 a d)
Right (analog e i m d) l y = Line (AnalogLine i) l × (y ≡ analog_due e (i + 1) m d)
Right (status e i m) l y = Line (StatusLine i) l × (y ≡ status_due e (i + 1) m)
Right (frequency e) l y = Line FrequencyLine l × (y ≡ rates e)
Right (rates e) l y = (n : ℕ) × Line (RatesLine n) l × (y ≡ rate_due e n (max 1 n) 0)
Right (rate e n m before) l y = (last : ℕ) × Line (RateLine (rate_sign n) before last) l × (y ≡ rate_due e n m last)
Right (first e) l y = (s : Option Moment) × Line (StampLine s) l × (y ≡ trigger e)
Right (trigger e) l y = (s : Option Moment) × Line (StampLine s) l × (y ≡ kind e)
Right (kind e) l y = (k : Kind) × Line (KindLine e k) l × (y ≡ multiplier e)
Right (multiplier e) l y = Line MultiplierLine l × (y ≡ end_due e)
Right codes l y = (z : ℤ) × (w : ℤ) × (x : Bool) × Line (CodesLine z w x) l × (y ≡ quality)
Right quality l y = (q : ℕ) × (p : ℕ) × Line (QualityLine q p) l × (y ≡ nothing)
Right nothing l y = ⊥

-- the line that is due is the last of its edition, and may end with the file
abbrev pub MayEnd : Due → Type 0
MayEnd y = (y ≡ quality) ⊎ (y ≡ multiplier Y1999)

-- t is j lines with their CR LF, each right in its place, from where x is due to where y is due
abbrev pub RightLines : ℕ → Due → List ℕ → Due → Type 0
RightLines zero x t y = (t ≡ []) × (x ≡ y)
RightLines (suc j) x t y = (l : List ℕ) × (u : List ℕ) × (z : Due) × (t ≡ ended l ++ u) × Right x l z × RightLines j z u y

-- u begins with no line that is right where y is due, nor is it such a line without its CR LF where that is the last
pub record NoneRight (y : Due) (u : List ℕ) : Type 0 where
  pub ended_line : (l v : List ℕ) (z : Due) → u ≡ ended l ++ v → Right y l z → ⊥
  pub last_line : MayEnd y → (z : Due) → Right y u z → ⊥

-- s first fails at line k: the lines before it are right, and then comes none that is right
pub record FailsAt (k : ℕ) (s : List ℕ) : Type 0 where
  pub before : List ℕ
  pub rest : List ℕ
  pub whole : s ≡ before ++ rest
  pub due : Due
  pub right : RightLines (k - 1) station before due
  pub wrong : NoneRight due rest
