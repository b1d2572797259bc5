-- WHAT EACH LINE OF A CONFIGURATION IS: how many fields it has, and what each of them is. Read after the data files; no reader stands here.
use Rattle.std.specs.Prelude.{◌≡◌, ◌⊎◌, Bool, true, false, not, List, [], ◌++◌, ℕ, zero, suc, ◌+◌, ◌-◌, ◌≤◌, ◌<◌, eqb, ℤ, pos}
use Rattle.ground.specs.Quoted.{quoted}
use Rattle.ground.specs.Tables.{cat, every}
use Rattle.std.specs.Prelude.{None, Option, Some}
use Rattle.reals.specs.declared.Sign.{Sign}
use Rattle.reals.specs.declared.Sign.TheVariants.{Above, Zero}
use Rattle.model.specs.declared.Kind.{Kind}
use Rattle.model.specs.declared.Kind.TheVariants.{Binary32}
use Rattle.model.specs.declared.Edition.{Edition}
use Rattle.model.specs.declared.Edition.TheVariants.{Y2013, Y1999}
use Rattle.clock.specs.declared.Moment.{Moment}
use Rattle.paper.specs.Fields.{TextField, is_between, CountField, CountIn, Lettered, RealField, AnyReal, Limits, DateText, TimeText, zeros, KindWord, CodeField, XField, QualityField, LeapField}

-- a line: bytes 32 to 126, and it is P
pub record Line (P : List ℕ → Type 0) (l : List ℕ) : Type 0 where
  pub bytes : every (is_between 32 126) l ≡ true
  pub is : P l

-- a line with its CR LF
abbrev pub ended : List ℕ → List ℕ
ended l = l ++ quoted "\r\n"

-- l is the n fields f 1, f 2, .. with a comma between each two, and no comma (byte 44) within one
pub record Fields (n : ℕ) (f : ℕ → List ℕ) (l : List ℕ) : Type 0 where
  pub joined : l ≡ f 1 ++ cat (λ i. quoted "," ++ f (i + 2)) (n - 1)
  pub apart : (i : ℕ) → 1 ≤ i → i ≤ n → every (λ b. not (eqb b 44)) (f i) ≡ true

-- the year of an edition, as a configuration names it
abbrev pub year_text : Edition → List ℕ
year_text Y2013 = quoted "2013"
year_text Y1999 = quoted "1999"

-- 1: station, device, the year of the edition
pub record StationLine (e : Edition) (l : List ℕ) : Type 0 where
  pub f : ℕ → List ℕ
  pub fields : Fields 3 f l
  pub station : TextField 0 64 (f 1)
  pub device : TextField 0 64 (f 2)
  pub year : f 3 ≡ year_text e

-- 2: TT, A with its letter, D with its letter; TT is A + D
pub record ChannelsLine (a d : ℕ) (l : List ℕ) : Type 0 where
  pub f : ℕ → List ℕ
  pub fields : Fields 3 f l
  pub total : CountIn 6 1 352 (a + d) (f 1)
  pub analogs : Lettered "A" 96 a (f 2)
  pub statuses : Lettered "D" 256 d (f 3)

-- index, name, phase and circuit of channel i
pub record ChannelNames (i : ℕ) (f : ℕ → List ℕ) : Type 0 where
  pub index : CountField 6 i (f 1)
  pub name : TextField 1 128 (f 2)
  pub phase : TextField 0 2 (f 3)
  pub circuit : TextField 0 64 (f 4)

-- 3: analog channel i: index, name, phase, circuit, unit, a, b, skew, min, max, primary, secondary, p P s S
pub record AnalogLine (i : ℕ) (l : List ℕ) : Type 0 where
  pub f : ℕ → List ℕ
  pub fields : Fields 13 f l
  pub names : ChannelNames i f
  pub unit : TextField 1 32 (f 5)
  pub a : AnyReal (f 6)
  pub b : AnyReal (f 7)
  pub skew : AnyReal (f 8)
  pub limits : Limits (f 9) (f 10)
  pub primary : AnyReal (f 11)
  pub secondary : AnyReal (f 12)
  pub side : (f 13 ≡ quoted "p") ⊎ ((f 13 ≡ quoted "P") ⊎ ((f 13 ≡ quoted "s") ⊎ (f 13 ≡ quoted "S")))

-- 4: status channel i: index, name, phase, circuit, normal state
pub record StatusLine (i : ℕ) (l : List ℕ) : Type 0 where
  pub f : ℕ → List ℕ
  pub fields : Fields 5 f l
  pub names : ChannelNames i f
  pub normal : (f 5 ≡ quoted "0") ⊎ (f 5 ≡ quoted "1")

-- 5: line frequency, empty or a real
pub record FrequencyLine (l : List ℕ) : Type 0 where
  pub f : ℕ → List ℕ
  pub fields : Fields 1 f l
  pub frequency : (f 1 ≡ []) ⊎ AnyReal (f 1)

-- 6: n rates, 0 to 8
pub record RatesLine (n : ℕ) (l : List ℕ) : Type 0 where
  pub f : ℕ → List ℕ
  pub fields : Fields 1 f l
  pub rates : CountIn 3 0 8 n (f 1)

-- what each rate must be: zero where there are no rates, else above zero
abbrev pub rate_sign : ℕ → Sign
rate_sign zero = Zero
rate_sign (suc n) = Above

-- a rate and its last row, 1 to 1,000,000 and above the one before
pub record RateLine (sign : Sign) (before last : ℕ) (l : List ℕ) : Type 0 where
  pub f : ℕ → List ℕ
  pub fields : Fields 2 f l
  pub rate : RealField sign (f 1)
  pub row : CountIn 10 1 1000000 last (f 2)
  pub rises : before < last

-- 7: a date and a time
pub record DateLine (m : Moment) (l : List ℕ) : Type 0 where
  pub f : ℕ → List ℕ
  pub fields : Fields 2 f l
  pub date : DateText m.date (f 1)
  pub time : TimeText m.time (f 2)

-- no date: the line of zeros, 6 to 9 of them after the point
pub record ZeroLine (l : List ℕ) : Type 0 where
  pub places : ℕ
  pub least : 6 ≤ places
  pub most : places ≤ 9
  pub line : l ≡ quoted "00/00/0000,00:00:00." ++ zeros places

-- a date and a time, or no date
abbrev pub StampLine : Option Moment → List ℕ → Type 0
StampLine (Some m) l = DateLine m l
StampLine None l = ZeroLine l

-- 8: the kind; binary32 is none of 1999
pub record KindLine (e : Edition) (k : Kind) (l : List ℕ) : Type 0 where
  pub f : ℕ → List ℕ
  pub fields : Fields 1 f l
  pub kind : KindWord k (f 1)
  pub has : e ≡ Y1999 → k ≡ Binary32 → ⊥

-- 9: time multiplier, above zero
pub record MultiplierLine (l : List ℕ) : Type 0 where
  pub f : ℕ → List ℕ
  pub fields : Fields 1 f l
  pub multiplier : RealField Above (f 1)

-- a local code: minutes; or x, and zero beside it
abbrev pub LocalField : ℤ → Bool → List ℕ → Type 0
LocalField z false f = CodeField z f
LocalField z true f = XField f × (z ≡ pos 0)

-- 10: time code and local code
pub record CodesLine (code local : ℤ) (x : Bool) (l : List ℕ) : Type 0 where
  pub f : ℕ → List ℕ
  pub fields : Fields 2 f l
  pub time : CodeField code (f 1)
  pub place : LocalField local x (f 2)

-- 11: time quality and leap second code
pub record QualityLine (q p : ℕ) (l : List ℕ) : Type 0 where
  pub f : ℕ → List ℕ
  pub fields : Fields 2 f l
  pub quality : QualityField q (f 1)
  pub leap : LeapField p (f 2)
