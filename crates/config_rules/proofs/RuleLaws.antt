-- Laws of the rules of a configuration's lines.
--     line-ready     after a line that is fine, the rule after it has what it needs
--     line-ruled     a line refuses only with 4, or 5 to 8 at a field
--     set_past       a store past the end stores nothing
-- Assumes nothing.
use Rattle.ground.specs.Said.{says}
use Rattle.ground.proofs.SaidLaws.{then-told, bind-told}
use mathlib.Core.Path.{◌≡◌, refl, ap, subst}
use mathlib.Core.List.{List, [], ◌∷◌}
use Prim.Native.Nat.{ℕ, zero, suc, ◌-◌, ◌≤◌}
use native.Mathlib.Omega.{arith}
use lib.ListN.{length, set}
use Rattle.ground.proofs.Cases.{on_test}
use Rattle.channel_lines.specs.Channels.{channels_line, analog_line, status_line}
use Rattle.config_lines.specs.Lines.{station_line, frequency_line, rates_line, rate_line, date_line, kind_line, multiplier_line, codes_line, quality_line}
use Rattle.config_rules.specs.Inner.{Taken}
use Rattle.line_fields.proofs.PlaceLaws.{Ruled, then-ruled, bind-ruled}
use Rattle.channel_lines.proofs.PlaceLaws.{channels-ruled, analog-ruled, status-ruled}
use Rattle.config_lines.proofs.PlaceLaws.{station-ruled, frequency-ruled, rates-ruled, rate-ruled, date-line-ruled, kind-line-ruled, multiplier-ruled, codes-ruled, quality-ruled}
use Rattle.config_lines.proofs.Laws.{date-said}
use Rattle.model.specs.declared.Edition.{Edition}
use Rattle.model.specs.declared.Edition.TheVariants.{Y2013, Y1999}
use Rattle.config_rules.specs.declared.Config.{Config}
use Rattle.config_rules.specs.declared.Rule.{Rule}
use Rattle.config_rules.specs.declared.Rule.TheVariants.{Station, Counts, Analog, Status, Frequency, RateCount, Rate, First, Trigger, KindWord, Multiplier, Codes, Quality, Done}
use Rattle.config_rules.specs.Inner.{after_analog, after_status, after_rate, after_multiplier, with_edition, with_counts, with_rates, with_last, with_stamps, with_codes, with_quality, taken, take_line, Ready}
use Rattle.config_rules.specs.Shown.{with_kind}
use Rattle.clock.specs.Spans.{pretrigger_of}
use Rattle.std.proofs.Common.{None}
use lib.Dec.{ltb, eqb}

statuses-ready : (i d : ℕ) (c : Config) → Ready (after_status i d) c
unfolding after_status Ready
statuses-ready i d c = on_test (ltb i d) (λ p. rw p tt) (λ p. rw p tt)

analogs-ready : (i a d : ℕ) (c : Config) → Ready (after_analog i a d) c
unfolding after_analog Ready
analogs-ready i a d c = on_test (ltb i a) (λ p. rw p tt) (λ p. rw p (statuses-ready 0 d c))

multiplier-ready : (e : Edition) (c : Config) → Ready (after_multiplier e) c
unfolding after_multiplier Ready
multiplier-ready Y2013 c = tt
multiplier-ready Y1999 c = tt

rate-ready : (i r : ℕ) (c : Config) → Ready (after_rate i r) c
unfolding after_rate Ready
rate-ready i r c = on_test (ltb i (r - 1)) (λ p. rw p tt) (λ p. rw p tt)

pub line-ready : (k : Rule) (c : Config) (l : List ℕ) (t : Taken) → take_line k c l ≡ says t → Ready t.rule t.config
unfolding take_line Ready
line-ready Station c l t e = let w = bind-told (station_line l) _ t e in let z = w.2 in let q : taken Counts (with_edition w.0 c) ≡ t = cc in rw (← q) tt
line-ready Counts c l t e = let w = bind-told (channels_line l) _ t e in let z = w.2 in let q : taken (after_analog 0 w.0.0 w.0.1) (with_counts w.0.0 w.0.1 c) ≡ t = cc in rw (← q) (analogs-ready 0 w.0.0 w.0.1 _)
line-ready (Analog i) c l t e = let z = (then-told (analog_line i l) _ t e).1 in let q : taken (after_analog i c.layout.analogs c.layout.statuses) c ≡ t = cc in rw (← q) (analogs-ready i c.layout.analogs c.layout.statuses c)
line-ready (Status i) c l t e = let z = (then-told (status_line i l) _ t e).1 in let q : taken (after_status i c.layout.statuses) c ≡ t = cc in rw (← q) (statuses-ready i c.layout.statuses c)
line-ready Frequency c l t e = let z = (then-told (frequency_line l) _ t e).1 in let q : taken RateCount c ≡ t = cc in rw (← q) tt
line-ready RateCount c l t e = let w = bind-told (rates_line l) _ t e in let z = w.2 in let q : taken (Rate 0) (with_rates w.0 c) ≡ t = cc in rw (← q) tt
line-ready (Rate i) c l t e =
    let w = bind-told (rate_line (eqb c.rates 0) c.layout.rows l) _ t e in
    let z = w.2 in
    let q : taken (after_rate i c.rates) (with_last i w.0 c) ≡ t = cc in
    subst (λ (x : Taken). Ready x.rule x.config) q (rate-ready i c.rates _)
line-ready First c l t e = let w = bind-told (date_line l) _ t e in let z = w.2 in let q : taken Trigger (with_stamps w.0 None None c) ≡ t = cc in rw (← q) (date-said l w.0 w.1)
line-ready Trigger c l t e = let w = bind-told (date_line l) _ t e in let z = w.2 in let q : taken KindWord (with_stamps c.first w.0 (pretrigger_of c.first w.0) c) ≡ t = cc in rw (← q) tt
line-ready KindWord c l t e = let w = bind-told (kind_line c.layout.edition l) _ t e in let z = w.2 in let q : taken Multiplier (with_kind w.0 c) ≡ t = cc in rw (← q) tt
line-ready Multiplier c l t e = let z = (then-told (multiplier_line l) _ t e).1 in let q : taken (after_multiplier c.layout.edition) c ≡ t = cc in rw (← q) (multiplier-ready c.layout.edition c)
line-ready Codes c l t e = let w = bind-told (codes_line l) _ t e in let z = w.2 in let q : taken Quality (with_codes w.0.0 w.0.1 w.0.2 c) ≡ t = cc in rw (← q) tt
line-ready Quality c l t e = let w = bind-told (quality_line l) _ t e in let z = w.2 in let q : taken Done (with_quality w.0.0 w.0.1 c) ≡ t = cc in rw (← q) tt
line-ready Done c l t e = let q : taken Done c ≡ t = cc in rw (← q) tt

pub line-ruled : (k : Rule) (c : Config) (l : List ℕ) → Ruled (take_line k c l)
unfolding take_line
line-ruled Station c l = bind-ruled (station_line l) _ (station-ruled l) (λ e. tt)
line-ruled Counts c l = bind-ruled (channels_line l) _ (channels-ruled l) (λ a. tt)
line-ruled (Analog i) c l = then-ruled (analog_line i l) _ (analog-ruled i l) tt
line-ruled (Status i) c l = then-ruled (status_line i l) _ (status-ruled i l) tt
line-ruled Frequency c l = then-ruled (frequency_line l) _ (frequency-ruled l) tt
line-ruled RateCount c l = bind-ruled (rates_line l) _ (rates-ruled l) (λ r. tt)
line-ruled (Rate i) c l = bind-ruled (rate_line (eqb c.rates 0) c.layout.rows l) _ (rate-ruled (eqb c.rates 0) c.layout.rows l) (λ v. tt)
line-ruled First c l = bind-ruled (date_line l) _ (date-line-ruled l) (λ d. tt)
line-ruled Trigger c l = bind-ruled (date_line l) _ (date-line-ruled l) (λ d. tt)
line-ruled KindWord c l = bind-ruled (kind_line c.layout.edition l) _ (kind-line-ruled c.layout.edition l) (λ k. tt)
line-ruled Multiplier c l = then-ruled (multiplier_line l) _ (multiplier-ruled l) tt
line-ruled Codes c l = bind-ruled (codes_line l) _ (codes-ruled l) (λ t. tt)
line-ruled Quality c l = bind-ruled (quality_line l) _ (quality-ruled l) (λ q. tt)
line-ruled Done c l = tt

-- a store past the end
pub set_past : (l : List ℕ) (i v : ℕ) → length l ≤ i → set l i v ≡ l
set_past [] i v h = refl
set_past (x ∷ l) zero v h = absurd (omega arith)
set_past (x ∷ l) (suc i) v h = ap (λ (t : List ℕ). x ∷ t) (set_past l i v (omega arith))
