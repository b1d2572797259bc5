-- The calendar and the pre-trigger time, exactly.
--     months-sum, years-is, day-is    days counted by the table of a year's months are those counted by rule
--     instant-is                      a moment in nanoseconds is its second and its nanosecond
--     span-alone                      seconds, and nanoseconds less than a second, are known by what they make
--     pretrigger-exactly              the pre-trigger time of valid moments is p exactly when first sample and p make the trigger
--     between-exactly                 the time between two stamps of the calendar is p exactly when it is told so
-- Assumes nothing.
use mathlib.Core.Path.{◌≡◌, refl, sym, ap, ◌∙◌}
use mathlib.Core.Logic.{◌↔◌}
use mathlib.Core.Bool.{true}
use mathlib.Core.List.{List, [], ◌∷◌, ◌++◌}
use Prim.Native.Nat.{ℕ, zero, suc, ◌+◌, ◌-◌, ◌*◌, ◌≤◌, ◌<◌}
use native.Mathlib.Numerals.{add-one}
use native.Mathlib.Omega.{arith}
use borrow.Author.Tests.{lt-ltb}
use lib.IntN.{ℤ, pos, negsuc, sub_ℕ, ◌+ℤ◌, ◌-ℤ◌, +ℤ_comm, +ℤ-neg_ℤ_cancel, -ℤ-+ℤ_cancel}
use lib.ListN.{take}
use lib.Seq.{take-suc}
use Rattle.ground.proofs.Cases.{clash}
use Rattle.clock.specs.declared.Date.{Date}
use Rattle.clock.specs.declared.Span.{Span}
use Rattle.clock.specs.declared.Moment.{Moment}
use Rattle.std.proofs.Common.{None, Option, Some}
use Rattle.clock.specs.Dates as clock
use Rattle.clock.specs.Dates.{valid_date, days_of_months}
use Rattle.clock.specs.Times.{valid_time, second_of_day}
use Rattle.clock.specs.Spans.{second_number, pre_trigger, Calendar, pretrigger_of}
use Rattle.clock.specs.Inner.{in_nanoseconds}
use Rattle.clock.proofs.DateLaws.{date-bounds, years-next}
use Rattle.clock.proofs.SpanLaws.{pre-exact, pre-below}
use Rattle.paper.specs.Fields.{month_lengths}
use Rattle.paper.specs.Configuration.{sum, days_of_years, day_number, instant, PreTrigger, Between}
use Rattle.exact.proofs.ClockLaws.{month-is}

sum-last : (l : List ℕ) (n : ℕ) → sum (l ++ n ∷ []) ≡ sum l + n
sum-last [] n = omega arith
sum-last (m ∷ l) n = omega (arith, sum-last l n)

months-sum : (y n : ℕ) → n ≤ 12 → sum (take n (month_lengths y)) ≡ days_of_months y n
unfolding days_of_months
months-sum y zero h = refl
months-sum y (suc n) h =
    let e : n + 1 ≡ suc n = add-one n in
    ap sum (take-suc (month_lengths y) n 0 (omega arith)) ∙ sum-last (take n (month_lengths y)) _
    ∙ rw (months-sum y n (omega arith), month-is y n (omega arith), e)

years-none : 0 ≡ clock.days_of_years 0
unfolding clock.days_of_years
years-none = refl

years-is : (n : ℕ) → days_of_years n ≡ clock.days_of_years n
unfolding days_of_years
years-is zero = years-none
years-is (suc n) =
    let e : n + 1 ≡ suc n = add-one n in
    let h : clock.days_of_years (suc n) ≡ clock.days_of_years n + days_of_months (suc n) 12 = rw e at (years-next n) in
    rw (h, years-is n, ← months-sum (suc n) 12 (omega arith))

day-is : (x : Date) → 1 ≤ x.month → x.month ≤ 12 → clock.day_number x ≡ pos (day_number x)
unfolding clock.day_number day_number
day-is x h k = rw (years-is (x.year - 1), months-sum x.year (x.month - 1) (omega arith))

pub instant-is : (m : Moment) → valid_date m.date ≡ true → in_nanoseconds (second_number m.date m.time) m.time.nanosecond ≡ pos (instant m)
unfolding in_nanoseconds second_number second_of_day instant
instant-is m h =
    let b = date-bounds m.date h in
    rw (day-is m.date b.2 b.3) (ap pos (omega arith))

below-zero : (a n : ℕ) → n < 1_000_000_000 → in_nanoseconds (negsuc a) n ≡ negsuc (a * 1_000_000_000 + (999_999_999 - n))
unfolding in_nanoseconds
below-zero a n h =
    let e : suc a * 1_000_000_000 ≡ suc (a * 1_000_000_000 + 999_999_999) = omega arith in
    rw (e, sub_ℕ, lt-ltb n (suc (a * 1_000_000_000 + 999_999_999)) (omega arith)) (ap negsuc (omega arith))

span-alone : (z w : ℤ) (n m : ℕ) → n < 1_000_000_000 → m < 1_000_000_000 → in_nanoseconds z n ≡ in_nanoseconds w m → (z ≡ w) × (n ≡ m)
unfolding in_nanoseconds
span-alone (pos a) (pos b) n m h k e =
    let q : a * 1_000_000_000 + n ≡ b * 1_000_000_000 + m = cc in
    (ap pos (omega arith), omega arith)
span-alone (pos a) (negsuc b) n m h k e = let q = below-zero b m k in clash (cc)
span-alone (negsuc a) (pos b) n m h k e = let q = below-zero a n h in clash (cc)
span-alone (negsuc a) (negsuc b) n m h k e =
    let p : negsuc (a * 1_000_000_000 + (999_999_999 - n)) ≡ negsuc (b * 1_000_000_000 + (999_999_999 - m)) = sym (below-zero a n h) ∙ e ∙ below-zero b m k in
    let q : a * 1_000_000_000 + (999_999_999 - n) ≡ b * 1_000_000_000 + (999_999_999 - m) = cc in
    (ap negsuc (omega arith), omega arith)

-- a span by its parts
abbrev span : ℤ → ℕ → Span
span z n = record { seconds = z; nanoseconds = n }

span_same : (x y : Span) → x.seconds ≡ y.seconds → x.nanoseconds ≡ y.nanoseconds → x ≡ y
span_same x y p q = ap (λ (z : ℤ). span z x.nanoseconds) p ∙ ap (span y.seconds) q

module _ (first trigger : Moment) (first_date : valid_date first.date ≡ true) (first_time : valid_time first.time ≡ true)
    (trigger_date : valid_date trigger.date ≡ true) (trigger_time : valid_time trigger.time ≡ true) where
  -- the time between them, as it is computed
  abbrev between : Span
  between = pre_trigger first.date first.time trigger.date trigger.time

  between-below : between.nanoseconds < 1_000_000_000
  between-below = pre-below first.date first.time trigger.date trigger.time first_time trigger_time

  between_is : in_nanoseconds between.seconds between.nanoseconds ≡ pos (instant trigger) -ℤ pos (instant first)
  between_is =
      pre-exact first.date first.time trigger.date trigger.time first_time
      ∙ rw (instant-is first first_date, instant-is trigger trigger_date)

  pre-to : (p : Span) → between ≡ p → PreTrigger first trigger p
  unfolding in_nanoseconds
  pre-to p e = rw (← e) (record {
    apart = ap (λ (z : ℤ). pos (instant first) +ℤ z) between_is
        ∙ +ℤ_comm (pos (instant first)) (pos (instant trigger) -ℤ pos (instant first)) ∙ -ℤ-+ℤ_cancel (pos (instant trigger)) (pos (instant first));
    below = between-below;
  })

  pre-from : (p : Span) → PreTrigger first trigger p → between ≡ p
  unfolding in_nanoseconds
  pre-from p h =
      let f = pos (instant first) in
      let z = in_nanoseconds p.seconds p.nanoseconds in
      let e : z ≡ pos (instant trigger) -ℤ f = sym (+ℤ-neg_ℤ_cancel z f) ∙ ap (λ (y : ℤ). y -ℤ f) (+ℤ_comm z f ∙ h.apart) in
      let (s, n) = span-alone between.seconds p.seconds between.nanoseconds p.nanoseconds between-below h.below (between_is ∙ sym e) in
      span_same between p s n

  pub pretrigger-exactly : (p : Span) → pre_trigger first.date first.time trigger.date trigger.time ≡ p ↔ PreTrigger first trigger p
  pretrigger-exactly p = (pre-to p, pre-from p)

pub between-exactly : (first trigger : Option Moment) → Calendar first → Calendar trigger → (p : Option Span) → pretrigger_of first trigger ≡ p ↔ Between first trigger p
unfolding pretrigger_of
between-exactly (Some a) (Some b) h g p =
    let w = pretrigger-exactly a b h.0 h.1 g.0 g.1 in
    (λ e. (_, sym e, (w _).0 refl), λ (d, q, k). ap Some ((w d).1 k) ∙ sym q)
between-exactly (Some a) None h g p = (λ e. sym e, λ e. sym e)
between-exactly None b h g p = (λ e. sym e, λ e. sym e)
