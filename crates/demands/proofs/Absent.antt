-- WHAT A CONFIGURATION LACKS, in the places that zl_config shows: no date, an unknown time, lines that the edition has not. Told as "there is none", and never as a number.
--     NoneShown       which of the 35 places are the number for "there is none", and where
--     config-none     demand 2: of the places that zl_config shows these are it, and no other
-- Assumes nothing.
use mathlib.Core.Path.{◌≡◌, refl, sym, ap, subst, ◌∙◌}
use mathlib.Core.Logic.{◌↔◌}
use mathlib.Core.Bool.{Bool, true, false, not}
use mathlib.Core.List.{List, [], ◌∷◌, ◌++◌, append_assoc}
use Prim.Native.Nat.{ℕ, zero, suc, ◌+◌, ◌-◌, ◌*◌, ◌^◌, ◌≤◌, ◌<◌}
use native.Mathlib.Omega.{arith}
use borrow.Author.Tests.{ne_eqb}
use lib.Dec.{ltb, leb}
use lib.IntN.{ℤ, pos, sub_ℕ, ◌-ℤ◌}
use lib.ListN.{length, get_or, get_or-replicate, get_or-append}
use lib.Seq.{get_or-append-add}
use Rattle.ground.specs.Said.{says}
use Rattle.ground.specs.Tables.{every}
use Rattle.ground.proofs.Cases.{on_test, clash}
use Rattle.ground.proofs.Every.{and_split}
use Rattle.words.specs.Signed.{is_lowest}
use Rattle.model.specs.declared.Edition.{Edition}
use Rattle.model.specs.declared.Edition.TheVariants.{Y2013, Y1999}
use Rattle.model.specs.Kinds.{kind_number}
use Rattle.model.specs.Editions.{year_of}
use Rattle.model.specs.Samples.{none, is_none}
use Rattle.model.proofs.SampleLaws.{none_is}
use Rattle.clock.specs.declared.Date.{Date}
use Rattle.clock.specs.declared.Time.{Time}
use Rattle.clock.specs.Dates.{valid_date}
use Rattle.clock.specs.Times.{valid_time}
use Rattle.clock.specs.declared.Span.{Span}
use Rattle.clock.specs.declared.Moment.{Moment}
use Rattle.std.proofs.Common.{None, Option, Some}
use Rattle.clock.specs.Spans.{span_of, pre_trigger, Calendar, pretrigger_of}
use Rattle.clock.proofs.SpanLaws.{second-size, less_one}
use Rattle.config_rules.specs.declared.LastLines.{LastLines}
use Rattle.config_rules.specs.declared.Config.{Config}
use Rattle.row_places.specs.Rows.{bool_place}
use Rattle.config_places.specs.Configs.{count_places, last_places, moment_places, stamp_places, pretrigger_places, end_places, other_places, config_places}
use Rattle.config_places.proofs.ConfigLaws.{stamp-places, pretrigger-places, end-places}
use Rattle.calls_config.specs.Calls.{config_call}
use Rattle.paper.specs.Fields as page
use Rattle.paper.specs.Fields.{CodeField}
use Rattle.paper.specs.Lines.{LocalField}
use Rattle.paper.specs.Configuration.{EndLines, Configuration}
use Rattle.exact_config.proofs.LineLaws.{stamp-calendar}
use Rattle.exact_config.proofs.ExactLaws.{pre_is}
use Rattle.demands.proofs.Exported.{config-shown}

-- a number that is a value
abbrev There : ℤ → Type 0
There z = is_none z ≡ false

-- seconds apart are few
apart-there : (a b : ℕ) → a < 2 ^ 62 → There (pos b -ℤ pos a)
unfolding is_none is_lowest
apart-there zero b h = refl
apart-there (suc a) b h =
    on_test (ltb b (suc a))
    (λ e. rw (sub_ℕ, e) (ne_eqb (suc a - suc b) 9223372036854775807 (λ q. omega arith)))
    (λ e. rw (sub_ℕ, e))

pre-there : (x : Date) (t : Time) (y : Date) (u : Time) → valid_date x ≡ true → valid_time t ≡ true → valid_date y ≡ true → valid_time u ≡ true → There (pre_trigger x t y u).seconds
unfolding pre_trigger span_of
pre-there x t y u h k i j =
    let a = second-size x t h k in
    let b = second-size y u i j in
    on_test (leb t.nanosecond u.nanosecond)
    (λ e. rw (e, a.1, b.1) (apart-there a.0 b.0 (omega arith)))
    (λ e. rw (e, a.1, b.1, less_one a.0 b.0) (apart-there (a.0 + 1) b.0 (omega arith)))

-- a code has few minutes
signed-there : (g : page.Sign) (v : ℕ) → v < 2 ^ 31 → There (page.signed g v)
unfolding is_none is_lowest
signed-there page.none v h = refl
signed-there page.plus v h = refl
signed-there page.minus zero h = refl
signed-there page.minus (suc v) h = ne_eqb v 9223372036854775807 (λ q. omega arith)

code-there : (z : ℤ) (f : List ℕ) → CodeField z f → There z
code-there z f w = rw w.worth (signed-there w.sign (60 * w.hours + w.minutes) (omega (arith, w.hours_in, w.minutes_in)))

local-there : (z : ℤ) (x : Bool) (f : List ℕ) → LocalField z x f → There z
unfolding is_none is_lowest
local-there z false f w = code-there z f w
local-there z true f w = rw w.1

bool-there : (b : Bool) → There (bool_place b)
unfolding is_none is_lowest
bool-there true = refl
bool-there false = refl

-- places that are all values
abbrev AllThere : List ℤ → Type 0
AllThere zs = every (λ z. not (is_none z)) zs ≡ true

all_there : (zs : List ℤ) → AllThere zs → (j : ℕ) → get_or zs j (pos 0) ≡ none → ⊥
all_there [] h j e = clash (cc)
all_there (z ∷ zs) h zero e =
    let s = and_split (not (is_none z)) (every (λ z. not (is_none z)) zs) h in
    let q : false ≡ true = rw (e, none_is) at s.0 in
    clash (cc)
all_there (z ∷ zs) h (suc j) e = all_there zs (and_split (not (is_none z)) (every (λ z. not (is_none z)) zs) h).1 j e

-- the places of the last lines
lines-there : (e : Edition) (x : LastLines) (t : List ℕ) → EndLines e (Some x) t → AllThere (end_places (Some x))
unfolding is_none is_lowest
lines-there Y1999 x t (q, r) = clash (cc)
lines-there Y2013 x t (y, l, m, q, codes, quality, r) =
    let k : y ≡ x = cc in
    rw (← k, code-there y.code (codes.is.f 1) codes.is.time, bool-there y.x, local-there y.local y.x (codes.is.f 2) codes.is.place)

-- the places from low to high are that number exactly where P holds
abbrev pub NoneIn : ℕ → ℕ → Type 0 → List ℤ → Type 0
NoneIn low high P zs = (j : ℕ) → low ≤ j → j ≤ high → get_or zs j (pos 0) ≡ none ↔ P

-- values, wherever one looks
values-none : (n : ℕ) (zs : List ℤ) → AllThere zs → NoneIn 0 n ⊥ zs
values-none n zs h j x y = (all_there zs h j, λ e. absurd e)

-- places in front
here-none : (n : ℕ) (P : Type 0) (zs ys : List ℤ) → length zs ≡ suc n → NoneIn 0 n P zs → NoneIn 0 n P (zs ++ ys)
here-none n P zs ys e h j x y = rw (get_or-append zs ys (pos 0) j (omega arith)) (h j x y)

-- places behind others
behind-none : (n low high : ℕ) (P : Type 0) (zs ys : List ℤ) → length zs ≡ n → NoneIn low high P ys → NoneIn (n + low) (n + high) P (zs ++ ys)
behind-none n low high P zs ys e h j x y =
    let p : length zs + (j - n) ≡ j = omega arith in
    let q : get_or (zs ++ ys) j (pos 0) ≡ get_or ys (j - n) (pos 0) = ap (λ (k : ℕ). get_or (zs ++ ys) k (pos 0)) (sym p) ∙ get_or-append-add zs ys (j - n) (pos 0) in
    rw q (h (j - n) (omega arith) (omega arith))

end_none : (e : Edition) (v : Option LastLines) (t : List ℕ) → EndLines e v t → NoneIn 0 4 (v ≡ None) (end_places v)
end_none e (Some x) t w j h k = (λ q. absurd (all_there (end_places (Some x)) (lines-there e x t w) j q), λ q. clash (cc))
end_none e None t w j h k = (λ q. refl, λ q. get_or-replicate 5 j none (pos 0) (omega arith))

moment-there : (m : Moment) → AllThere (moment_places m)
unfolding is_none is_lowest
moment-there m = refl

stamp-none : (s : Option Moment) → NoneIn 0 6 (s ≡ None) (stamp_places s)
stamp-none (Some m) j h k = (λ q. absurd (all_there (moment_places m) (moment-there m) j q), λ q. clash (cc))
stamp-none None j h k = (λ q. refl, λ q. get_or-replicate 7 j none (pos 0) (omega arith))

span-there : (d : Span) → There d.seconds → AllThere (pretrigger_places (Some d))
unfolding is_none is_lowest
span-there d h = rw h

-- the time between two stamps is few seconds, or unknown
pretrigger-there : (f t : Option Moment) → Calendar f → Calendar t → (d : Span) → pretrigger_of f t ≡ Some d → There d.seconds
unfolding pretrigger_of
pretrigger-there (Some a) (Some b) h g d e =
    let q : pre_trigger a.date a.time b.date b.time ≡ d = cc in
    rw (← q) (pre-there a.date a.time b.date b.time h.0 h.1 g.0 g.1)
pretrigger-there (Some a) None h g d e = clash (cc)
pretrigger-there None b h g d e = clash (cc)

pretrigger-none : (f t : Option Moment) → Calendar f → Calendar t → (p : Option Span) → pretrigger_of f t ≡ p → NoneIn 0 1 (p ≡ None) (pretrigger_places p)
pretrigger-none f t h g (Some d) e j x y = (λ q. absurd (all_there (pretrigger_places (Some d)) (span-there d (pretrigger-there f t h g d e)) j q), λ q. clash (cc))
pretrigger-none f t h g None e j x y = (λ q. refl, λ q. get_or-replicate 2 j none (pos 0) (omega arith))

-- WHICH OF THE 35 PLACES ARE "there is none": those of a date line exactly where it has no date, those of the pre-trigger time where it is unknown, those of the last lines where these are absent
pub record NoneShown (c : Config) (zs : List ℤ) : Type 0 where
  -- channels, rates, rows and last rows never
  pub counts : NoneIn 0 11 ⊥ zs
  pub first : NoneIn 12 18 (c.first ≡ None) zs
  pub trigger : NoneIn 19 25 (c.trigger ≡ None) zs
  pub pretrigger : NoneIn 26 27 (c.pretrigger ≡ None) zs
  pub kind : NoneIn 28 28 ⊥ zs
  pub last : NoneIn 29 33 (c.last ≡ None) zs
  pub edition : NoneIn 34 34 ⊥ zs

-- the places of a configuration, one group behind the other
module _ (s : List ℕ) (c : Config) (w : Configuration s c) where
  abbrev numbers : List ℤ
  numbers = count_places c ++ last_places c.lasts

  abbrev year : List ℤ
  year = pos (year_of c.layout.edition) ∷ []

  abbrev from_last : List ℤ
  from_last = end_places c.last ++ year

  abbrev from_kind : List ℤ
  from_kind = pos (kind_number c.layout.kind) ∷ from_last

  abbrev from_pretrigger : List ℤ
  from_pretrigger = pretrigger_places c.pretrigger ++ from_kind

  abbrev from_trigger : List ℤ
  from_trigger = stamp_places c.trigger ++ from_pretrigger

  groups : config_places c ≡ numbers ++ (stamp_places c.first ++ from_trigger)
  unfolding config_places
  groups =
      ap (◌++◌ numbers) (append_assoc (stamp_places c.first) (stamp_places c.trigger) (other_places c)
      ∙ ap (λ (zs : List ℤ). stamp_places c.first ++ (stamp_places c.trigger ++ zs)) (append_assoc (pretrigger_places c.pretrigger) (pos (kind_number c.layout.kind) ∷ []) from_last))

  numbers-there : AllThere numbers
  unfolding is_none is_lowest
  numbers-there = refl

  kind-there : AllThere (pos (kind_number c.layout.kind) ∷ [])
  unfolding is_none is_lowest
  kind-there = refl

  year-there : AllThere year
  unfolding is_none is_lowest
  year-there = refl

  pub pretrigger-is : pretrigger_of c.first c.trigger ≡ c.pretrigger
  pretrigger-is = (pre_is c.first c.trigger w.l7 w.m7 c.pretrigger w.first.is w.trigger.is).1 w.pretrigger

  past-stamps : (low high : ℕ) (P : Type 0) → NoneIn low high P from_pretrigger → NoneIn (12 + (7 + (7 + low))) (12 + (7 + (7 + high))) P (numbers ++ (stamp_places c.first ++ from_trigger))
  past-stamps low high P h =
      behind-none 12 (7 + (7 + low)) (7 + (7 + high)) P numbers (stamp_places c.first ++ from_trigger) refl
      (behind-none 7 (7 + low) (7 + high) P (stamp_places c.first) from_trigger (stamp-places c.first)
      (behind-none 7 low high P (stamp_places c.trigger) from_pretrigger (stamp-places c.trigger) h))

  shown-none : NoneShown c (numbers ++ (stamp_places c.first ++ from_trigger))
  shown-none = record {
    counts = here-none 11 ⊥ numbers (stamp_places c.first ++ from_trigger) refl (values-none 11 numbers numbers-there);
    first = behind-none 12 0 6 (c.first ≡ None) numbers (stamp_places c.first ++ from_trigger) refl
        (here-none 6 (c.first ≡ None) (stamp_places c.first) from_trigger (stamp-places c.first) (stamp-none c.first));
    trigger = behind-none 12 7 13 (c.trigger ≡ None) numbers (stamp_places c.first ++ from_trigger) refl
        (behind-none 7 0 6 (c.trigger ≡ None) (stamp_places c.first) from_trigger (stamp-places c.first)
        (here-none 6 (c.trigger ≡ None) (stamp_places c.trigger) from_pretrigger (stamp-places c.trigger) (stamp-none c.trigger)));
    pretrigger = past-stamps 0 1 (c.pretrigger ≡ None) (here-none 1 (c.pretrigger ≡ None) (pretrigger_places c.pretrigger) from_kind (pretrigger-places c.pretrigger)
        (pretrigger-none c.first c.trigger (stamp-calendar c.first w.l7 w.first.is) (stamp-calendar c.trigger w.m7 w.trigger.is) c.pretrigger pretrigger-is));
    kind = past-stamps 2 2 ⊥ (behind-none 2 0 0 ⊥ (pretrigger_places c.pretrigger) from_kind (pretrigger-places c.pretrigger)
        (here-none 0 ⊥ (pos (kind_number c.layout.kind) ∷ []) from_last refl (values-none 0 (pos (kind_number c.layout.kind) ∷ []) kind-there)));
    last = past-stamps 3 7 (c.last ≡ None) (behind-none 2 1 5 (c.last ≡ None) (pretrigger_places c.pretrigger) from_kind (pretrigger-places c.pretrigger)
        (behind-none 1 0 4 (c.last ≡ None) (pos (kind_number c.layout.kind) ∷ []) from_last refl
        (here-none 4 (c.last ≡ None) (end_places c.last) year (end-places c.last) (end_none c.layout.edition c.last w.t10 w.last))));
    edition = past-stamps 8 8 ⊥ (behind-none 2 6 6 ⊥ (pretrigger_places c.pretrigger) from_kind (pretrigger-places c.pretrigger)
        (behind-none 1 5 5 ⊥ (pos (kind_number c.layout.kind) ∷ []) from_last refl
        (behind-none 5 0 0 ⊥ (end_places c.last) year (end-places c.last) (values-none 0 year year-there))));
  }

-- DEMAND 2. So of the places that zl_config shows
pub config-none : (s : List ℕ) (room : ℕ) (zs : List ℤ) → config_call s room ≡ says zs → (c : Config) × Configuration s c × NoneShown c zs
config-none s room zs e =
    let (c, w, h, q) = (config-shown s room zs).0 e in
    (c, w, subst (NoneShown c) (sym (q ∙ groups s c w)) (shown-none s c w))
