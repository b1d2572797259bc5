-- Laws of the lines that speak of no channel: what the values are that a line says, and how large they can be.
--     rates-said, rate-said, quality-said      how large and how small: a last row is a row
--     moment-told, none_told                   where a date and a time are said, and where no date is
--     date-said                                the stamp that is said is of the calendar, or no date
--     kind-told, kind-said                     where a kind is said; it is one of the edition's
--     rates-le, rate-le, quality-le, date-valid     the same of what the code answers
-- Assumes nothing.
use mathlib.Core.Path.{◌≡◌, refl, ap}
use mathlib.Core.Bool.{Bool, true}
use mathlib.Core.List.{List}
use Prim.Native.Nat.{ℕ, ◌≤◌}
use lib.Dec.{ltb, eqb}
use Rattle.ground.specs.Said.{says, answer_of}
use Rattle.ground.proofs.Cases.{on_test, clash}
use Rattle.ground.proofs.SaidLaws.{must-told, bind-told, answer-told}
use Rattle.text.specs.Fields.{field_count, field_at}
use Rattle.std.proofs.Common.{Err, None, Ok, Option, Result, Some}
use Rattle.clock.specs.declared.Date.{Date}
use Rattle.numerals.specs.declared.FieldError.{FieldError}
use Rattle.numerals.specs.declared.FieldError.TheVariants.{Form, Range}
use Rattle.fields.specs.Fields.{read_count_in, read_quality, read_leap, read_kind}
use Rattle.clock.specs.declared.Time.{Time}
use Rattle.clock.specs.declared.Moment.{Moment}
use Rattle.clock.specs.Dates.{read_date}
use Rattle.clock.specs.Times.{read_time, is_zero_time}
use Rattle.clock.specs.Spans.{Calendar}
use Rattle.clock.proofs.DateLaws.{read-date-valid}
use Rattle.clock.proofs.TimeLaws.{read-time-valid}
use Rattle.model.specs.declared.Kind.{Kind}
use Rattle.model.specs.declared.Edition.{Edition}
use Rattle.model.specs.Editions.{has_kind}
use Rattle.line_fields.specs.Faults.{rate_fault}
use Rattle.line_fields.specs.Checks.{fault, value_at, value}
use Rattle.line_fields.proofs.ValueLaws.{value-le, value-ge, quality-small, leap-small, value-told}
use Rattle.config_lines.specs.Lines.{of_edition, rates_line, rate_line, stamp_said, date_line, kind_line, quality_line}

pub rates-said : (l : List ℕ) (v : ℕ) → rates_line l ≡ says v → v ≤ 8
unfolding rates_line
rates-said l v e =
    let f = must-told (eqb (field_count l) 1) (fault 4 0) _ v e in
    value-le 3 0 8 (field_at 1 l) v (value-told 1 (read_count_in 3 0 8 (field_at 1 l)) v f.1)

pub rate-said : (none : Bool) (before : ℕ) (l : List ℕ) (v : ℕ) → rate_line none before l ≡ says v → (1 ≤ v) × (v ≤ 1000000)
unfolding rate_line
rate-said none before l v e =
    let f = must-told (eqb (field_count l) 2) (fault 4 0) _ v e in
    let r = must-told (eqb (rate_fault none (field_at 1 l)) 0) (fault (rate_fault none (field_at 1 l)) 1) _ v f.1 in
    let w = bind-told (value 2 (read_count_in 10 1 1000000) l) _ v r.1 in
    let s = must-told (ltb before w.0) (fault 7 2) _ v w.2 in
    let z = s.1 in
    let q : w.0 ≡ v = cc in
    let t = value-told 2 (read_count_in 10 1 1000000 (field_at 2 l)) w.0 w.1 in
    rw (← q) (value-ge 10 1 1000000 (field_at 2 l) w.0 t, value-le 10 1 1000000 (field_at 2 l) w.0 t)

pub quality-said : (l : List ℕ) (v : ℕ × ℕ) → quality_line l ≡ says v → (v.0 ≤ 15) × (v.1 ≤ 3)
unfolding quality_line
quality-said l v e =
    let f = must-told (eqb (field_count l) 2) (fault 4 0) _ v e in
    let q = bind-told (value 1 read_quality l) _ v f.1 in
    let p = bind-told (value 2 read_leap l) _ v q.2 in
    let z = p.2 in
    let w : (q.0, p.0) ≡ v = cc in
    rw (← w) (
      quality-small (field_at 1 l) q.0 (value-told 1 (read_quality (field_at 1 l)) q.0 q.1),
      leap-small (field_at 2 l) p.0 (value-told 2 (read_leap (field_at 2 l)) p.0 p.1),
    )

pub moment-told : (d : Result (Option Date) FieldError) (t : Result Time FieldError) (m : Moment) → stamp_said d t ≡ says (Some m) → (d ≡ Ok (Some m.date)) × (t ≡ Ok m.time)
moment-told (Ok (Some x)) t m e =
    let (y, p, z) = bind-told (value_at 2 t) _ (Some m) e in
    let w : record { date = x; time = y } ≡ m = cc in
    rw (← w) (refl, value-told 2 t y p)
moment-told (Ok None) (Ok y) m e = let z = (must-told (is_zero_time y) (fault 6 1) _ (Some m) e).1 in clash (cc)
moment-told (Ok None) (Err Form) m e = clash (cc)
moment-told (Ok None) (Err Range) m e = clash (cc)
moment-told (Err Form) t m e = clash (cc)
moment-told (Err Range) t m e = clash (cc)

pub none_told : (d : Result (Option Date) FieldError) (t : Result Time FieldError) → stamp_said d t ≡ says None → (d ≡ Ok None) × (y : Time) × (t ≡ Ok y) × (is_zero_time y ≡ true)
none_told (Ok (Some x)) t e = let (y, p, z) = bind-told (value_at 2 t) _ None e in clash (cc)
none_told (Ok None) (Ok y) e = (refl, y, refl, (must-told (is_zero_time y) (fault 6 1) _ None e).0)
none_told (Ok None) (Err Form) e = clash (cc)
none_told (Ok None) (Err Range) e = clash (cc)
none_told (Err Form) t e = clash (cc)
none_told (Err Range) t e = clash (cc)

pub date-said : (l : List ℕ) (s : Option Moment) → date_line l ≡ says s → Calendar s
unfolding date_line
date-said l (Some m) e =
    let f = must-told (eqb (field_count l) 2) (fault 4 0) _ (Some m) e in
    let (d, t) = moment-told (read_date (field_at 1 l)) (read_time (field_at 2 l)) m f.1 in
    (read-date-valid (field_at 1 l) m.date d, read-time-valid (field_at 2 l) m.time t)
date-said l None e = tt

pub kind-told : (e : Edition) (n : ℕ) (f : Result Kind FieldError) (k : Kind) → value_at n (of_edition e f) ≡ says k → (f ≡ Ok k) × (has_kind e k ≡ true)
kind-told e n (Ok x) k =
    on_test (has_kind e x)
    (λ t. rw t (λ q. let w : x ≡ k = cc in (ap (λ (y : Kind). Ok y) w, rw (← w) t)))
    (λ t. rw t (λ q. clash (cc)))
kind-told e n (Err Form) k = λ q. clash (cc)
kind-told e n (Err Range) k = λ q. clash (cc)

pub kind-said : (e : Edition) (l : List ℕ) (k : Kind) → kind_line e l ≡ says k → has_kind e k ≡ true
unfolding kind_line
kind-said e l k q = let f = must-told (eqb (field_count l) 1) (fault 4 0) _ k q in (kind-told e 1 (read_kind (field_at 1 l)) k f.1).1

-- What the code answers
pub rates-le : (l : List ℕ) (v : ℕ) → answer_of (rates_line l) ≡ Ok v → v ≤ 8
rates-le l v e = rates-said l v (answer-told (rates_line l) v e)

pub rate-le : (none : Bool) (before : ℕ) (l : List ℕ) (v : ℕ) → answer_of (rate_line none before l) ≡ Ok v → v ≤ 1000000
rate-le none before l v e = (rate-said none before l v (answer-told (rate_line none before l) v e)).1

pub quality-le : (l : List ℕ) (v : ℕ × ℕ) → answer_of (quality_line l) ≡ Ok v → (v.0 ≤ 15) × (v.1 ≤ 3)
quality-le l v e = quality-said l v (answer-told (quality_line l) v e)

pub date-valid : (l : List ℕ) (s : Option Moment) → answer_of (date_line l) ≡ Ok s → Calendar s
date-valid l s e = date-said l s (answer-told (date_line l) s e)
