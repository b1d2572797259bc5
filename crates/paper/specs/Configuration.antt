-- READ THIS FIRST. What a configuration is and what it shows (here), the data files (Data, and Written for what is written), a configuration's lines (Lines), their fields (Fields).
-- No reader and no writer stands in these files. The theorems of crate `demands` (docs/DEMANDS.md) prove that read_config, check and show_row accept exactly these and show exactly this.
-- Not said here: at which line a file that is no configuration first fails (Order), and which refusal a file gets (config/specs/Config.antt, read from the top).
use Rattle.std.specs.Prelude.{◌≡◌, ◌⊎◌, List, [], ◌∷◌, ◌++◌, ℕ, zero, suc, ◌+◌, ◌-◌, ◌*◌, ◌≤◌, ◌<◌, max, pos, ◌+ℤ◌, ◌*ℤ◌, length, replicate, take}
use Rattle.ground.specs.Quoted.{quoted}
use Rattle.clock.specs.declared.Date.{Date}
use Rattle.clock.specs.declared.Span.{Span}
use Rattle.clock.specs.declared.Moment.{Moment}
use Rattle.std.specs.Prelude.{None, Option, Some}
use Rattle.reals.specs.declared.Sign.{Sign}
use Rattle.model.specs.declared.Edition.{Edition}
use Rattle.model.specs.declared.Edition.TheVariants.{Y2013, Y1999}
use Rattle.config_rules.specs.declared.LastLines.{LastLines}
use Rattle.config_rules.specs.declared.Config.{Config}
use Rattle.paper.specs.Fields.{month_lengths}
use Rattle.paper.specs.Lines.{Line, ended, StationLine, ChannelsLine, AnalogLine, StatusLine, FrequencyLine, RatesLine}
use Rattle.paper.specs.Lines.{rate_sign, RateLine, StampLine, KindLine, MultiplierLine, CodesLine, QualityLine}

-- t is m lines, each with its CR LF, the first of them P of i, the next P of i + 1, ..
abbrev pub Lines : (ℕ → List ℕ → Type 0) → ℕ → ℕ → List ℕ → Type 0
Lines P i zero t = t ≡ []
Lines P i (suc m) t = (l : List ℕ) × (u : List ℕ) × (t ≡ ended l ++ u) × Line (P i) l × Lines P (i + 1) m u

-- t is the lines of rates with these last rows, each above the one before
abbrev pub RateLines : Sign → ℕ → List ℕ → List ℕ → Type 0
RateLines sign before [] t = t ≡ []
RateLines sign before (last ∷ lasts) t = (l : List ℕ) × (u : List ℕ) × (t ≡ ended l ++ u) × Line (RateLine sign before last) l × RateLines sign last lasts u

-- a sum
abbrev pub sum : List ℕ → ℕ
sum [] = 0
sum (n ∷ l) = n + sum l

-- the days of the years 1 to y
unfoldable pub days_of_years : ℕ → ℕ
days_of_years zero = 0
days_of_years (suc y) = days_of_years y + sum (month_lengths (suc y))

-- the number of a day: those of the years before, of the months before, and the day itself
unfoldable pub day_number : Date → ℕ
day_number x = days_of_years (x.year - 1) + sum (take (x.month - 1) (month_lengths x.year)) + x.day

-- a moment in nanoseconds: 24 hours of 60 minutes of 60 seconds a day
unfoldable pub instant : Moment → ℕ
instant m = (((day_number m.date * 24 + m.time.hour) * 60 + m.time.minute) * 60 + m.time.second) * 1000000000 + m.time.nanosecond

-- the pre-trigger time p: first sample and p make the trigger, and p's nanoseconds are less than a second, so that its seconds are rounded down
pub record PreTrigger (first trigger : Moment) (p : Span) : Type 0 where
  pub apart : pos (instant first) +ℤ (p.seconds *ℤ pos 1000000000 +ℤ pos p.nanoseconds) ≡ pos (instant trigger)
  pub below : p.nanoseconds < 1000000000

-- the time between first sample and trigger; unknown where either has no date
abbrev pub Between : Option Moment → Option Moment → Option Span → Type 0
Between (Some a) (Some b) p = (d : Span) × (p ≡ Some d) × PreTrigger a b d
Between (Some a) None p = p ≡ None
Between None b p = p ≡ None

-- what follows the time multiplier's bytes, before the file's end: nothing in 1999; in 2013 its CR LF, time code and local code with theirs, time quality and leap second code
abbrev pub EndLines : Edition → Option LastLines → List ℕ → Type 0
EndLines Y1999 v t = (v ≡ None) × (t ≡ [])
EndLines Y2013 v t =
    (e : LastLines) × (l10 : List ℕ) × (l11 : List ℕ)
    × (v ≡ Some e)
    × Line (CodesLine e.code e.local e.x) l10
    × Line (QualityLine e.quality e.leap) l11
    × (t ≡ quoted "\r\n" ++ (ended l10 ++ l11))

-- THE CONFIGURATION. The bytes s are one, and it shows c. Numbers are those of the rules' list, line by line.
pub record Configuration (s : List ℕ) (c : Config) : Type 0 where
  -- 1: station, device, year
  pub l1 : List ℕ
  pub station : Line (StationLine c.layout.edition) l1
  -- 2: TT, A, D
  pub l2 : List ℕ
  pub channels : Line (ChannelsLine c.layout.analogs c.layout.statuses) l2
  -- 3: A analog lines, from index 1
  pub t3 : List ℕ
  pub analogs : Lines AnalogLine 1 c.layout.analogs t3
  -- 4: D status lines, from index 1
  pub t4 : List ℕ
  pub statuses : Lines StatusLine 1 c.layout.statuses t4
  -- 5: line frequency
  pub l5 : List ℕ
  pub frequency : Line FrequencyLine l5
  -- 6: number of rates, and a line for each; with 0 rates one line whose rate is zero. The last rows are shown, zeros after them; the last of them is the number of rows
  pub l6 : List ℕ
  pub rates : Line (RatesLine c.rates) l6
  pub lasts : List ℕ
  pub t6 : List ℕ
  pub rate_lines : RateLines (rate_sign c.rates) 0 lasts t6
  pub rate_count : length lasts ≡ max 1 c.rates
  pub lasts_shown : c.lasts ≡ lasts ++ replicate (8 - length lasts) 0
  pub rows : (others : List ℕ) × (lasts ≡ others ++ c.layout.rows ∷ [])
  -- 7: first sample, trigger, and the time between them
  pub l7 : List ℕ
  pub first : Line (StampLine c.first) l7
  pub m7 : List ℕ
  pub trigger : Line (StampLine c.trigger) m7
  pub pretrigger : Between c.first c.trigger c.pretrigger
  -- 8: kind
  pub l8 : List ℕ
  pub kind : Line (KindLine c.layout.edition c.layout.kind) l8
  -- 9: time multiplier
  pub l9 : List ℕ
  pub multiplier : Line MultiplierLine l9
  -- 10 and 11: the last two lines, which 1999 lacks
  pub t10 : List ℕ
  pub last : EndLines c.layout.edition c.last t10
  -- these and nothing else, each with CR LF, the last with it or not; at most 65,536 bytes
  pub end : List ℕ
  pub ends : (end ≡ []) ⊎ (end ≡ quoted "\r\n")
  pub whole : s ≡ ended l1 ++ (ended l2 ++ (t3 ++ (t4 ++ (ended l5 ++ (ended l6 ++ (t6 ++ (ended l7 ++ (ended m7 ++ (ended l8 ++ (l9 ++ (t10 ++ end)))))))))))
  pub small : length s ≤ 65536
