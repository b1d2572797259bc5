-- NO CLOCK, NO DATE: which lines say that there is no date, what a date of zeros beside anything else is told, and where the pre-trigger time is unknown.
--     no-date-line         demand 2: a date line says that there is no date exactly when it is the line of zeros
--     dates-exactly        demand 2: so a configuration shows no date exactly where its line is the line of zeros
--     six-at-the-date      demand 1: a date line is 6 at field 1 exactly when it has two fields, the first is a date in form and no day of the calendar, and it is not the line of zeros
--     zero-date-six        so where the first field is the date of zeros and the line is not the line of zeros
--     unknown-exactly      demand 2: the pre-trigger time of a configuration is unknown exactly where either of its date lines has no date
--     known_is             and where both have one, it is trigger minus first sample
-- Which field is the date of zeros is told by `no-date-exactly` (exact/proofs/ClockLaws.antt).
-- Assumes nothing.
use mathlib.Core.Path.{◌≡◌, refl, sym, ap, ◌∙◌}
use mathlib.Core.Logic.{◌↔◌, ◌⊎◌, inl, inr}
use mathlib.Core.Bool.{true, false}
use mathlib.Core.List.{List}
use Prim.Native.Nat.{ℕ}
use native.Mathlib.Omega.{arith}
use borrow.Author.Tests.{eq-eqb, eqb-true, eqb-false}
use lib.Dec.{eqb}
use Rattle.ground.specs.Said.{says, refuses}
use Rattle.ground.specs.Quoted.{quoted}
use Rattle.ground.proofs.Cases.{on_test, clash}
use Rattle.text.specs.Fields.{field_count, field_at}
use Rattle.clock.specs.declared.Date.{Date}
use Rattle.std.proofs.Common.{Err, None, Ok, Option, Result, Some}
use Rattle.numerals.specs.declared.FieldError.{FieldError}
use Rattle.clock.specs.declared.Span.{Span}
use Rattle.numerals.specs.declared.FieldError.TheVariants.{Form, Range}
use Rattle.clock.specs.declared.Moment.{Moment}
use Rattle.clock.specs.declared.Time.{Time}
use Rattle.clock.specs.Dates.{read_date}
use Rattle.clock.specs.Times.{read_time, is_zero_time}
use Rattle.clock.specs.Spans.{pre_trigger, pretrigger_of}
use Rattle.line_fields.specs.declared.Fault.{Fault}
use Rattle.line_fields.specs.Checks.{fault}
use Rattle.config_lines.specs.Lines.{none_said, stamp_said, date_line}
use Rattle.config_rules.specs.declared.Config.{Config}
use Rattle.paper.specs.Fields.{Day, DateForm}
use Rattle.paper.specs.Lines.{Fields, ZeroLine, StampLine}
use Rattle.paper.specs.Configuration.{Between, Configuration}
use Rattle.exact.proofs.ClockLaws.{zero_date, zero-form, Judged, date-judged, no-date-exactly, date-range}
use Rattle.exact.proofs.CommaLaws.{fields-of}
use Rattle.exact.proofs.TimeLaws.{zero-time}
use Rattle.exact_config.proofs.LineLaws.{fields-here, zero-line, date-line-exactly}
use Rattle.demands.proofs.Absent.{pretrigger-is}
use Rattle.model.specs.Refusals.{reason_number, numbered}

-- DEMAND 2. The request's line
pub no-date-line : (l : List ℕ) → date_line l ≡ says None ↔ ZeroLine l
no-date-line l = date-line-exactly None l

-- of a stamp
none-line : (v : Option Moment) (l : List ℕ) → StampLine v l → v ≡ None ↔ ZeroLine l
none-line (Some m) l h = (λ e. clash (cc), λ z. let p = (date-line-exactly (Some m) l).1 h in let q = (no-date-line l).1 z in clash (cc))
none-line None l h = (λ e. h, λ z. refl)

-- DEMAND 2. So a configuration shows no date
pub dates-exactly : (s : List ℕ) (c : Config) (w : Configuration s c) → (c.first ≡ None ↔ ZeroLine w.l7) × (c.trigger ≡ None ↔ ZeroLine w.m7)
dates-exactly s c w = (none-line c.first w.l7 w.first.is, none-line c.trigger w.m7 w.trigger.is)

-- a line of two fields, the first a date in form that is no day of the calendar, and which is not the line of zeros
abbrev pub NoDay : List ℕ → Type 0
NoDay l = (f : ℕ → List ℕ) × (x : Date) × Fields 2 f l × DateForm x (f 1) × (Day x → ⊥) × (ZeroLine l → ⊥)

-- a time of zeros
abbrev ZeroTime : Result Time FieldError → Type 0
ZeroTime t = (x : Time) × (t ≡ Ok x) × (is_zero_time x ≡ true)

-- refusals that differ
other-number : (n k i j : ℕ) → eqb (reason_number (numbered n)) (reason_number (numbered k)) ≡ false → fault n i ≡ fault k j → ⊥
other-number n k i j d e = eqb-false (reason_number (numbered n)) (reason_number (numbered k)) d (ap (λ (f : Fault). reason_number f.reason) e)

-- a time of day beside the date of zeros
six-beside : (y : Time) → none_said (Ok y) ≡ refuses (fault 6 1) → ZeroTime (Ok y) → ⊥
six-beside y e (x, p, w) =
    let q : y ≡ x = cc in
    let z : is_zero_time y ≡ true = rw q w in
    let n = rw z at e in
    clash (cc)

six-told : (d : Result (Option Date) FieldError) (t : Result Time FieldError) → stamp_said d t ≡ refuses (fault 6 1) → (d ≡ Err Range) ⊎ ((d ≡ Ok None) × (ZeroTime t → ⊥))
six-told (Ok (Some x)) (Ok y) e = clash (cc)
six-told (Ok (Some x)) (Err Form) e = absurd (other-number 5 6 2 1 refl (cc))
six-told (Ok (Some x)) (Err Range) e = let q : fault 6 2 ≡ fault 6 1 = cc in absurd (eqb-false 2 1 refl (ap (λ (f : Fault). f.field) q))
six-told (Ok None) (Ok y) e = inr (refl, six-beside y e)
six-told (Ok None) (Err Form) e = inr (refl, λ (x, p, w). clash (cc))
six-told (Ok None) (Err Range) e = inr (refl, λ (x, p, w). clash (cc))
six-told (Err Form) t e = absurd (other-number 5 6 1 1 refl (cc))
six-told (Err Range) t e = inl refl

beside-zero : (t : Result Time FieldError) → (ZeroTime t → ⊥) → none_said t ≡ refuses (fault 6 1)
beside-zero (Ok x) h = on_test (is_zero_time x) (λ z. absurd (h (x, refl, z))) (λ z. rw z)
beside-zero (Err Form) h = refl
beside-zero (Err Range) h = refl

-- no day of the calendar is of zeros
zero-no-day : Day zero_date → ⊥
zero-no-day d = let y = d.years in omega arith

module _ (l : List ℕ) where
  zero-time-line : field_count l ≡ 2 → field_at 1 l ≡ quoted "00/00/0000" → ZeroTime (read_time (field_at 2 l)) ↔ ZeroLine l
  zero-time-line c q = (λ z. (zero-line l).0 (c, (q, (zero-time (field_at 2 l)).0 z)), λ w. (zero-time (field_at 2 l)).1 ((zero-line l).1 w).1.1)

  no-day-to : field_count l ≡ 2 → (read_date (field_at 1 l) ≡ Err Range) ⊎ ((read_date (field_at 1 l) ≡ Ok None) × (ZeroTime (read_time (field_at 2 l)) → ⊥)) → NoDay l
  no-day-to c (inl e) =
      let ((x, d, n), h) = (date-range (field_at 1 l)).0 e in
      (λ i. field_at i l, x, fields-of 2 l (omega arith) c, d, n, λ w. h ((zero-line l).1 w).1.0)
  no-day-to c (inr (e, h)) =
      let q = (no-date-exactly (field_at 1 l)).0 e in
      (λ i. field_at i l, zero_date, fields-of 2 l (omega arith) c, rw q zero-form, zero-no-day, λ w. h ((zero-time-line c q).1 w))

  no-day-from : (x : Date) → field_count l ≡ 2 → (Day x → ⊥) → (ZeroLine l → ⊥) → Judged x (field_at 1 l) → date_line l ≡ refuses (fault 6 1)
  unfolding date_line
  no-day-from x c n h (inl (z, e)) =
      rw (eq-eqb (field_count l) 2 c, e) (beside-zero (read_time (field_at 2 l)) (λ w. h ((zero-time-line c ((no-date-exactly (field_at 1 l)).0 e)).0 w)))
  no-day-from x c n h (inr (inl (g, e))) = absurd (n g)
  no-day-from x c n h (inr (inr (z, m, e))) = rw (eq-eqb (field_count l) 2 c, e)

-- DEMAND 1. 6 at the date
pub six-at-the-date : (l : List ℕ) → date_line l ≡ refuses (fault 6 1) ↔ NoDay l
unfolding date_line
six-at-the-date l = (
  on_test (eqb (field_count l) 2)
      (λ t. rw t (λ e. no-day-to l (eqb-true (field_count l) 2 t) (six-told (read_date (field_at 1 l)) (read_time (field_at 2 l)) e)))
      (λ t. rw t (λ e. absurd (other-number 4 6 0 1 refl (cc)))),
  λ (f, x, w, d, n, h).
      let (c, e) = fields-here 2 f l refl w in
      no-day-from l x c n h (date-judged x (field_at 1 l) (rw (e 1 refl) d)),
)

pub zero-date-six : (f : ℕ → List ℕ) (l : List ℕ) → Fields 2 f l → f 1 ≡ quoted "00/00/0000" → (ZeroLine l → ⊥) → date_line l ≡ refuses (fault 6 1)
zero-date-six f l w d n = (six-at-the-date l).1 (f, zero_date, w, rw d zero-form, zero-no-day, n)

-- of two stamps
unknown-of : (f t : Option Moment) (p : Option Span) → Between f t p → p ≡ None ↔ ((f ≡ None) ⊎ (t ≡ None))
unknown-of (Some a) (Some b) p (d, q, k) = (λ e. clash (cc), λ e. absurd (neither e))
  where
    neither : ((Some a ≡ None) ⊎ (Some b ≡ None)) → ⊥
    neither (inl e) = clash (cc)
    neither (inr e) = clash (cc)
unknown-of (Some a) None p q = (λ e. inr refl, λ e. q)
unknown-of None t p q = (λ e. inl refl, λ e. q)

-- DEMAND 2. Where the pre-trigger time is unknown
pub unknown-exactly : (s : List ℕ) (c : Config) → Configuration s c → c.pretrigger ≡ None ↔ ((c.first ≡ None) ⊎ (c.trigger ≡ None))
unknown-exactly s c w = unknown-of c.first c.trigger c.pretrigger w.pretrigger

-- DEMAND 2. And where it is known
pub known_is : (s : List ℕ) (c : Config) (a b : Moment) → Configuration s c → c.first ≡ Some a → c.trigger ≡ Some b
    → c.pretrigger ≡ Some (pre_trigger a.date a.time b.date b.time)
unfolding pretrigger_of
known_is s c a b w f t = sym (pretrigger-is s c w) ∙ rw (f, t)
