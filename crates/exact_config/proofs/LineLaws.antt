-- The lines of a configuration, exactly: a line's rule says values exactly when the line is one that says them.
--     Says                                              something is said, a, exactly where P a
--     says-says, must-says, then-says, bind-says        what is said, a test, and one after another
--     count-says, fine-says, at-says                    so many fields; a field that passes its check; a value that was read in a field
--     fields-here                                       the fields that a line is are found in it
--     station-line-exactly, channels-line-exactly       each line, in the order of the rules
--     analog-line-exactly, status-line-exactly, frequency-line-exactly, rates-line-exactly, rate-line-exactly
--     zero-line                                         a line of zeros, by its two fields
--     date-line-exactly, stamp-calendar                 a date line; what it says is of the calendar, or no date
--     kind-line-exactly, multiplier-line-exactly, codes-line-exactly, quality-line-exactly
-- Assumes nothing.
use Rattle.std.specs.Prelude.{if◌then◌else◌}
use mathlib.Core.Path.{◌≡◌, refl, sym, ap, subst, ◌∙◌}
use mathlib.Core.Logic.{◌↔◌, ◌⊎◌, inl, inr}
use mathlib.Core.Bool.{Bool, true, false, not}
use mathlib.Core.List.{List, [], ◌++◌}
use Prim.Native.Nat.{ℕ, zero, suc, ◌+◌}
use native.Mathlib.Omega.{arith}
use borrow.Author.Tests.{eq-eqb, eqb-true, lt-ltb, ltb-true, leb-true}
use lib.Dec.{eqb, ltb, leb}
use lib.IntN.{ℤ, pos}
use Rattle.ground.specs.Quoted.{quoted}
use Rattle.ground.specs.Tables.{every}
use Rattle.ground.specs.Said.{Said, says, ◌>>=◌, ◌>>◌, must}
use Rattle.ground.proofs.Cases.{on_test, clash}
use Rattle.ground.proofs.Every.{and_split}
use Rattle.ground.proofs.SaidLaws.{must-holds, then-told, bind-told}
use Rattle.text.specs.Fields.{field_count, field_at}
use Rattle.std.proofs.Common.{Err, None, Ok, Option, Result, Some}
use Rattle.clock.specs.declared.Moment.{Moment}
use Rattle.numerals.specs.declared.FieldError.{FieldError}
use Rattle.codes.specs.declared.Code.{Code}
use Rattle.codes.specs.declared.Code.TheVariants.{Minutes, X}
use Rattle.numerals.specs.declared.FieldError.TheVariants.{Form, Range}
use Rattle.reals.specs.declared.Sign.TheVariants.{Above}
use Rattle.fields.specs.Fields.{read_count_in, read_lettered, read_year, read_quality, read_leap, read_kind}
use Rattle.reals.specs.Exact.{read_limit, max_below}
use Rattle.clock.specs.Dates.{read_date}
use Rattle.clock.specs.Times.{read_time}
use Rattle.clock.specs.Spans.{Calendar}
use Rattle.codes.specs.Codes.{code_in, read_code, read_local_code}
use Rattle.line_fields.specs.declared.Fault.{Fault}
use Rattle.line_fields.specs.Faults.{text_fault, index_fault, real_fault, frequency_fault, above_fault, rate_fault, side_fault, state_fault}
use Rattle.line_fields.specs.Checks.{fault, has_fields, faultless, value_at}
use Rattle.channel_lines.specs.Channels.{channels_line, names, scale, limits, analog_line, status_line}
use Rattle.config_lines.specs.Lines.{edition_at, year_at, stamp_said, of_edition, code_at, local_at, station_line, frequency_line, rates_line, rate_line, date_line, kind_line, multiplier_line, codes_line, quality_line}
use Rattle.line_fields.proofs.ValueLaws.{value-told}
use Rattle.config_lines.proofs.Laws.{moment-told, none_told, date-said, kind-told}
use Rattle.model.specs.declared.Kind.{Kind}
use Rattle.model.specs.declared.Edition.{Edition}
use Rattle.model.specs.declared.Edition.TheVariants.{Y2013, Y1999}
use Rattle.model.specs.Editions.{year_of, edition_of, has_kind}
use Rattle.paper.specs.Fields.{is_between, CountIn, Limits}
use Rattle.paper.specs.Fields as paper
use Rattle.paper.specs.Lines.{Fields, ChannelNames, StationLine, ChannelsLine, AnalogLine, StatusLine, FrequencyLine, RatesLine}
use Rattle.paper.specs.Lines.{rate_sign, RateLine, ZeroLine, StampLine, KindLine, MultiplierLine, LocalField, CodesLine, QualityLine}
use Rattle.exact.proofs.CommaLaws.{fields-exactly, fields-of}
use Rattle.exact.proofs.FieldLaws.{count-in-exactly, lettered-exactly, year-is}
use Rattle.exact.proofs.CharacterLaws.{quality-exactly, leap-exactly}
use Rattle.exact.proofs.KindLaws.{kind-exactly, has-exactly}
use Rattle.exact.proofs.LimitLaws.{limits-exactly}
use Rattle.exact.proofs.ClockLaws.{date-exactly, no-date-exactly}
use Rattle.exact.proofs.TimeLaws.{ZeroTimeText, time-exactly, zero-time}
use Rattle.exact.proofs.CodeLaws.{code-exactly, x-exactly}
use Rattle.exact_config.proofs.FaultLaws.{text-fine, index-fine, real-fine, frequency-fine, above-fine, rate-fine, side-fine, state-fine}

pub record Says {R A : Type 0} (x : Said R A) (P : A → Type 0) : Type 0 where
  pub exactly : (a : A) → x ≡ says a ↔ P a

pub says-says : {R A : Type 0} (a : A) → Says {R = R} {A = A} (says a) (λ b. a ≡ b)
says-says a = record { exactly = λ b. (λ e. cc, λ e. rw e) }

pub must-says : {R : Type 0} (t : Bool) (r : R) {P : Type 0} → t ≡ true ↔ P → Says (must t r) (λ u. P)
must-says t r h = record { exactly = λ u. (λ e. h.0 (must-holds t r e), λ p. rw (h.1 p)) }

pub then-says : {R B : Type 0} {x : Said R (Unit {0})} {y : Said R B} {P : Type 0} {Q : B → Type 0} → Says x (λ u. P) → Says y Q → Says (x >> y) (λ b. P × Q b)
then-says {R} {B} {x} {y} h g =
    record {
      exactly = λ b. (
        λ e. let (f, k) = then-told x y b e in ((h.exactly tt).0 f, (g.exactly b).0 k),
        λ (p, q). rw ((h.exactly tt).1 p) ((g.exactly b).1 q),
      );
    }

pub bind-says : {R A B : Type 0} {x : Said R A} {f : A → Said R B} {P : A → Type 0} {Q : A → B → Type 0} → Says x P → ((a : A) → Says (f a) (Q a)) → Says (x >>= f) (λ b. (a : A) × P a × Q a b)
bind-says {R} {A} {B} {x} {f} h g =
    record {
      exactly = λ b. (
        λ e. let (a, k, j) = bind-told x f b e in (a, (h.exactly a).0 k, ((g a).exactly b).0 j),
        λ (a, p, q). rw ((h.exactly a).1 p) (((g a).exactly b).1 q),
      );
    }

-- 4: so many fields
pub count-says : (n : ℕ) (l : List ℕ) → Says (has_fields n l) (λ u. field_count l ≡ n)
count-says n l = must-says (eqb (field_count l) n) (fault 4 0) (eqb-true (field_count l) n, eq-eqb (field_count l) n)

-- a field that passes its check
pub fine-says : (k : ℕ) (check : List ℕ → ℕ) (l : List ℕ) {P : Type 0} → check (field_at k l) ≡ 0 ↔ P → Says (faultless k check l) (λ u. P)
fine-says k check l h = must-says (eqb (check (field_at k l)) 0) (fault (check (field_at k l)) k) (λ e. h.0 (eqb-true (check (field_at k l)) 0 e), λ p. eq-eqb (check (field_at k l)) 0 (h.1 p))

-- a value that was read
pub at-says : {A B : Type 0} (at : B → Said Fault A) (is : A → B) → ((b : B) (a : A) → at b ≡ says a → b ≡ is a) → ((a : A) → at (is a) ≡ says a)
    → (b : B) {P : A → Type 0} → ((a : A) → b ≡ is a ↔ P a) → Says (at b) P
at-says at is told same b h = record { exactly = λ a. (λ e. (h a).0 (told b a e), λ p. ap at ((h a).1 p) ∙ same a) }

value-says : {A : Type 0} (k : ℕ) (b : Result A FieldError) {P : A → Type 0} → ((v : A) → b ≡ Ok v ↔ P v) → Says (value_at k b) P
value-says k b h = at-says (value_at k) Ok (value-told k) (λ v. refl) b h

-- the fields that a line is are found in it
pub fields-here : (n : ℕ) (f : ℕ → List ℕ) (l : List ℕ) → is_between 1 n n ≡ true → Fields n f l → (field_count l ≡ n) × ((i : ℕ) → is_between 1 n i ≡ true → field_at i l ≡ f i)
fields-here n f l h w =
    let (c, e) = (fields-exactly n f l (leb-true 1 n (and_split (leb 1 n) (leb n n) h).0)).0 w in
    (c, λ i t. let (a, b) = and_split (leb 1 i) (leb i n) t in e i (leb-true 1 i a) (leb-true i n b))

-- the edition that was found by its year
edition-told : (k y : ℕ) (e : Edition) → edition_at k (edition_of y) ≡ says e → y ≡ year_of e
unfolding edition_of
edition-told k y e =
    on_test (eqb y 2013)
    (λ t. rw t (λ q. let w : Y2013 ≡ e = cc in rw (← w) (eqb-true y 2013 t)))
    (λ t. on_test (eqb y 1999)
    (λ u. rw (t, u) (λ q. let w : Y1999 ≡ e = cc in rw (← w) (eqb-true y 1999 u)))
    (λ u. rw (t, u) (λ q. clash (cc))))

year-told : (k : ℕ) (b : Option ℕ) (e : Edition) → year_at k b ≡ says e → b ≡ Some (year_of e)
year-told k (Some y) e q = ap Some (edition-told k y e q)
year-told k None e q = clash (cc)

year-same : (k : ℕ) (e : Edition) → year_at k (Some (year_of e)) ≡ says e
unfolding edition_of
year-same k Y2013 = refl
year-same k Y1999 = refl

pub station-line-exactly : (e : Edition) (l : List ℕ) → station_line l ≡ says e ↔ StationLine e l
unfolding station_line
station-line-exactly e l =
    let w =
    then-says (count-says 3 l)
    (then-says (fine-says 1 (text_fault 0 64) l (text-fine 0 64 (field_at 1 l)))
    (then-says (fine-says 2 (text_fault 0 64) l (text-fine 0 64 (field_at 2 l)))
    (at-says (year_at 3) (λ x. Some (year_of x)) (year-told 3) (year-same 3) (read_year (field_at 3 l)) (λ x. year-is x (field_at 3 l)))))
    in (
      λ q. let (c, (s, (d, y))) = (w.exactly e).0 q in record { f = λ i. field_at i l; fields = fields-of 3 l (omega arith) c; station = s; device = d; year = y },
      λ s.
          let (c, q) = fields-here 3 s.f l refl s.fields in
          (w.exactly e).1 (rw (q 1 refl, q 2 refl, q 3 refl) (c, (s.station, (s.device, s.year)))),
    )

pub channels-line-exactly : (a d : ℕ) (l : List ℕ) → channels_line l ≡ says (a, d) ↔ ChannelsLine a d l
unfolding channels_line
channels-line-exactly a d l =
    let w =
    then-says (count-says 3 l)
    (bind-says (value-says 1 (read_count_in 6 1 352 (field_at 1 l)) (count-in-exactly 6 1 352 (field_at 1 l))) (λ t.
    bind-says (value-says 2 (read_lettered 65 96 (field_at 2 l)) (lettered-exactly "A" 65 refl 96 (field_at 2 l))) (λ x.
    bind-says (value-says 3 (read_lettered 68 256 (field_at 3 l)) (lettered-exactly "D" 68 refl 256 (field_at 3 l))) (λ y.
    then-says (must-says (eqb t (x + y)) (fault 7 3) (eqb-true t (x + y), eq-eqb t (x + y))) (says-says {A = ℕ × ℕ} (x, y))))))
    in (
      λ e.
          let (c, (t, p, (x, q, (y, r, (s, z))))) = (w.exactly (a, d)).0 e in
          let total = subst (λ (v : ℕ). CountIn 6 1 352 v (field_at 1 l)) s p in
          subst (λ (v : ℕ × ℕ). ChannelsLine v.0 v.1 l) z (record { f = λ i. field_at i l; fields = fields-of 3 l (omega arith) c; total = total; analogs = q; statuses = r }),
      λ s.
          let (c, e) = fields-here 3 s.f l refl s.fields in
          (w.exactly (a, d)).1 (c, (a + d, rw (e 1 refl) s.total, (a, rw (e 2 refl) s.analogs, (d, rw (e 3 refl) s.statuses, (refl, refl))))),
    )

names-says : (n i : ℕ) (l : List ℕ) → Says (names n i l) (λ u. (field_count l ≡ n) × ChannelNames i (λ k. field_at k l))
unfolding names
names-says n i l =
    let w =
    then-says (count-says n l)
    (then-says (fine-says 1 (index_fault i) l (index-fine i (field_at 1 l)))
    (then-says (fine-says 2 (text_fault 1 128) l (text-fine 1 128 (field_at 2 l)))
    (then-says (fine-says 3 (text_fault 0 2) l (text-fine 0 2 (field_at 3 l)))
    (fine-says 4 (text_fault 0 64) l (text-fine 0 64 (field_at 4 l))))))
    in
    record {
      exactly = λ u. (
        λ e. let (c, (i, (n, (p, k)))) = (w.exactly u).0 e in (c, record { index = i; name = n; phase = p; circuit = k }),
        λ (c, s). (w.exactly u).1 (c, (s.index, (s.name, (s.phase, s.circuit)))),
      );
    }

-- the names of a channel, in a line of n fields
names_at : (i : ℕ) (f g : ℕ → List ℕ) → f 1 ≡ g 1 → f 2 ≡ g 2 → f 3 ≡ g 3 → f 4 ≡ g 4 → ChannelNames i g → ChannelNames i f
names_at i f g a b c d s = record { index = rw a s.index; name = rw b s.name; phase = rw c s.phase; circuit = rw d s.circuit }

scale-says : (l : List ℕ) → Says (scale l) (λ u. paper.TextField 1 32 (field_at 5 l) × (paper.AnyReal (field_at 6 l) × (paper.AnyReal (field_at 7 l) × paper.AnyReal (field_at 8 l))))
unfolding scale
scale-says l =
    then-says (fine-says 5 (text_fault 1 32) l (text-fine 1 32 (field_at 5 l)))
    (then-says (fine-says 6 real_fault l (real-fine (field_at 6 l)))
    (then-says (fine-says 7 real_fault l (real-fine (field_at 7 l)))
    (fine-says 8 real_fault l (real-fine (field_at 8 l)))))

limit-says : (k : ℕ) (f : List ℕ) → Says (value_at k (read_limit f)) (λ x. read_limit f ≡ Ok x)
limit-says k f = value-says k (read_limit f) (λ x. (λ e. e, λ e. e))

not-true : (t : Bool) → not t ≡ true ↔ (t ≡ false)
not-true true = (λ e. sym e, λ e. sym e)
not-true false = (λ e. refl, λ e. refl)

limits-says : (l : List ℕ) → Says (limits l) (λ u. Limits (field_at 9 l) (field_at 10 l))
unfolding limits
limits-says l =
    let w =
    bind-says (limit-says 9 (field_at 9 l)) (λ min.
    bind-says (limit-says 10 (field_at 10 l)) (λ max.
    must-says (not (max_below max min)) (fault 7 10) (not-true (max_below max min))))
    in
    let q = limits-exactly (field_at 9 l) (field_at 10 l) in
    record {
      exactly = λ u. (
        λ e. let (min, a, (max, b, o)) = (w.exactly u).0 e in q.0 (min, max, a, b, o),
        λ s. let (min, max, a, b, o) = q.1 s in (w.exactly u).1 (min, a, (max, b, o)),
      );
    }

pub analog-line-exactly : (i : ℕ) (l : List ℕ) → analog_line i l ≡ says tt ↔ AnalogLine i l
unfolding analog_line
analog-line-exactly i l =
    let w =
    then-says (names-says 13 i l)
    (then-says (scale-says l)
    (then-says (limits-says l)
    (then-says (fine-says 11 real_fault l (real-fine (field_at 11 l)))
    (then-says (fine-says 12 real_fault l (real-fine (field_at 12 l)))
    (fine-says 13 side_fault l (side-fine (field_at 13 l)))))))
    in (
      λ e.
          let ((c, n), ((u, (a, (b, k))), (m, (p, (q, s))))) = (w.exactly tt).0 e in
          record { f = λ k. field_at k l; fields = fields-of 13 l (omega arith) c; names = n; unit = u; a = a; b = b; skew = k; limits = m; primary = p; secondary = q; side = s },
      λ s.
          let (c, e) = fields-here 13 s.f l refl s.fields in
          (w.exactly tt).1 (
            (c, names_at i (λ k. field_at k l) s.f (e 1 refl) (e 2 refl) (e 3 refl) (e 4 refl) s.names),
            (
              (rw (e 5 refl) s.unit, (rw (e 6 refl) s.a, (rw (e 7 refl) s.b, rw (e 8 refl) s.skew))),
              (rw (e 9 refl, e 10 refl) s.limits, (rw (e 11 refl) s.primary, (rw (e 12 refl) s.secondary, rw (e 13 refl) s.side))),
            ),
          ),
    )

pub status-line-exactly : (i : ℕ) (l : List ℕ) → status_line i l ≡ says tt ↔ StatusLine i l
unfolding status_line
status-line-exactly i l =
    let w = then-says (names-says 5 i l) (fine-says 5 state_fault l (state-fine (field_at 5 l))) in (
      λ e. let ((c, n), s) = (w.exactly tt).0 e in record { f = λ k. field_at k l; fields = fields-of 5 l (omega arith) c; names = n; normal = s },
      λ s.
          let (c, e) = fields-here 5 s.f l refl s.fields in
          (w.exactly tt).1 (
            (c, names_at i (λ k. field_at k l) s.f (e 1 refl) (e 2 refl) (e 3 refl) (e 4 refl) s.names),
            rw (e 5 refl) s.normal,
          ),
    )

-- a line of one field
module _ {A : Type 0} {x : Said Fault A} (P : A → List ℕ → Type 0) (l : List ℕ) (h : Says x (λ a. P a (field_at 1 l))) where
  pub one_field : (a : A) → (has_fields 1 l >> x) ≡ says a ↔ ((f : ℕ → List ℕ) × Fields 1 f l × P a (f 1))
  one_field a =
      let w = then-says (count-says 1 l) h in (
        λ e. let (c, p) = (w.exactly a).0 e in (λ i. field_at i l, fields-of 1 l (omega arith) c, p),
        λ (f, s, p). let (c, e) = fields-here 1 f l refl s in (w.exactly a).1 (c, rw (e 1 refl) p),
      )

pub frequency-line-exactly : (l : List ℕ) → frequency_line l ≡ says tt ↔ FrequencyLine l
unfolding frequency_line
frequency-line-exactly l =
    let w = one_field (λ u f. (f ≡ []) ⊎ paper.AnyReal f) l (fine-says 1 frequency_fault l (frequency-fine (field_at 1 l))) tt in
    (λ e. let (f, s, p) = w.0 e in record { f = f; fields = s; frequency = p }, λ s. w.1 (s.f, s.fields, s.frequency))

pub rates-line-exactly : (n : ℕ) (l : List ℕ) → rates_line l ≡ says n ↔ RatesLine n l
unfolding rates_line
rates-line-exactly n l =
    let w = one_field (CountIn 3 0 8) l (value-says 1 (read_count_in 3 0 8 (field_at 1 l)) (count-in-exactly 3 0 8 (field_at 1 l))) n in
    (λ e. let (f, s, p) = w.0 e in record { f = f; fields = s; rates = p }, λ s. w.1 (s.f, s.fields, s.rates))

pub rate-line-exactly : (n before last : ℕ) (l : List ℕ) → rate_line (eqb n 0) before l ≡ says last ↔ RateLine (rate_sign n) before last l
unfolding rate_line
rate-line-exactly n before last l =
    let w =
    then-says (count-says 2 l)
    (then-says (fine-says 1 (rate_fault (eqb n 0)) l (rate-fine n (field_at 1 l)))
    (bind-says (value-says 2 (read_count_in 10 1 1000000 (field_at 2 l)) (count-in-exactly 10 1 1000000 (field_at 2 l))) (λ v.
    then-says (must-says (ltb before v) (fault 7 2) (ltb-true before v, lt-ltb before v)) (says-says v))))
    in (
      λ e.
          let (c, (r, (v, p, (b, z)))) = (w.exactly last).0 e in
          subst (λ (v : ℕ). RateLine (rate_sign n) before v l) z (record { f = λ i. field_at i l; fields = fields-of 2 l (omega arith) c; rate = r; row = p; rises = b }),
      λ s.
          let (c, e) = fields-here 2 s.f l refl s.fields in
          (w.exactly last).1 (c, (rw (e 1 refl) s.rate, (last, rw (e 2 refl) s.row, (s.rises, refl)))),
    )

-- what the two fields of a date line are
abbrev StampFields : Option Moment → List ℕ → List ℕ → Type 0
StampFields (Some m) f g = paper.DateText m.date f × paper.TimeText m.time g
StampFields None f g = (f ≡ quoted "00/00/0000") × ZeroTimeText g

stamp-says : (s : Option Moment) (f g : List ℕ) → stamp_said (read_date f) (read_time g) ≡ says s ↔ StampFields s f g
stamp-says (Some m) f g = (
  λ e. let (d, t) = moment-told (read_date f) (read_time g) m e in ((date-exactly m.date f).0 d, (time-exactly m.time g).0 t),
  λ (d, t). rw ((date-exactly m.date f).1 d, (time-exactly m.time g).1 t),
)
stamp-says None f g = (
  λ e. let (d, y, t, z) = none_told (read_date f) (read_time g) e in ((no-date-exactly f).0 d, (zero-time g).0 (y, t, z)),
  λ (d, t). let (y, p, z) = (zero-time g).1 t in rw ((no-date-exactly f).1 d, p, z),
)

-- the two fields of a line of zeros
abbrev zero_field : ℕ → ℕ → List ℕ
zero_field n i = if eqb i 1 then quoted "00/00/0000" else quoted "00:00:00." ++ paper.zeros n

zeros-apart : (n : ℕ) → every (λ b. not (eqb b 44)) (paper.zeros n) ≡ true
zeros-apart zero = refl
zeros-apart (suc n) = zeros-apart n

zero-fields : (l : List ℕ) (w : ZeroLine l) → Fields 2 (zero_field w.places) l
zero-fields l w =
    record {
      joined = w.line;
      apart = λ i h k. on_test (eqb i 1) (λ t. rw t) (λ t. rw t (zeros-apart w.places));
    }

pub zero-line : (l : List ℕ) → ((field_count l ≡ 2) × ((field_at 1 l ≡ quoted "00/00/0000") × ZeroTimeText (field_at 2 l))) ↔ ZeroLine l
zero-line l = (
  λ (c, (d, (n, h, k, t))). record { places = n; least = h; most = k; line = (fields-of 2 l (omega arith) c).joined ∙ rw (d, t) },
  λ w.
      let (c, e) = fields-here 2 (zero_field w.places) l refl (zero-fields l w) in
      (c, (e 1 refl, (w.places, w.least, w.most, e 2 refl))),
)

stamp-line : (s : Option Moment) (l : List ℕ) → ((field_count l ≡ 2) × StampFields s (field_at 1 l) (field_at 2 l)) ↔ StampLine s l
stamp-line (Some m) l = (
  λ (c, (d, t)). record { f = λ i. field_at i l; fields = fields-of 2 l (omega arith) c; date = d; time = t },
  λ w. let (c, e) = fields-here 2 w.f l refl w.fields in (c, (rw (e 1 refl) w.date, rw (e 2 refl) w.time)),
)
stamp-line None l = zero-line l

pub date-line-exactly : (s : Option Moment) (l : List ℕ) → date_line l ≡ says s ↔ StampLine s l
unfolding date_line
date-line-exactly s l =
    let w = then-says (count-says 2 l) (record { exactly = λ s. stamp-says s (field_at 1 l) (field_at 2 l) }) in
    let t = stamp-line s l in
    (λ e. t.0 ((w.exactly s).0 e), λ h. (w.exactly s).1 (t.1 h))

-- so what it says is of the calendar, or no date
pub stamp-calendar : (s : Option Moment) (l : List ℕ) → StampLine s l → Calendar s
stamp-calendar s l h = date-said l s ((date-line-exactly s l).1 h)

kind-says : (e : Edition) (n : ℕ) (f : List ℕ) → Says (value_at n (of_edition e (read_kind f))) (λ k. paper.KindWord k f × (has_kind e k ≡ true))
kind-says e n f =
    record {
      exactly = λ k. (
        λ q. let (a, b) = kind-told e n (read_kind f) k q in ((kind-exactly f k).0 a, b),
        λ (a, b). rw ((kind-exactly f k).1 a, b),
      );
    }

pub kind-line-exactly : (e : Edition) (k : Kind) (l : List ℕ) → kind_line e l ≡ says k ↔ KindLine e k l
unfolding kind_line
kind-line-exactly e k l =
    let w = one_field (λ x f. paper.KindWord x f × (has_kind e x ≡ true)) l (kind-says e 1 (field_at 1 l)) k in (
      λ q. let (f, s, (a, b)) = w.0 q in record { f = f; fields = s; kind = a; has = (has-exactly e k).0 b },
      λ s. w.1 (s.f, s.fields, (s.kind, (has-exactly e k).1 s.has)),
    )

pub multiplier-line-exactly : (l : List ℕ) → multiplier_line l ≡ says tt ↔ MultiplierLine l
unfolding multiplier_line
multiplier-line-exactly l =
    let w = one_field (λ u. paper.RealField Above) l (fine-says 1 above_fault l (above-fine (field_at 1 l))) tt in
    (λ e. let (f, s, p) = w.0 e in record { f = f; fields = s; multiplier = p }, λ s. w.1 (s.f, s.fields, s.multiplier))

code-told : (k : ℕ) (b : Result Code FieldError) (z : ℤ) → code_at k b ≡ says z → b ≡ Ok (Minutes z)
code-told k (Ok (Minutes y)) z e = cc
code-told k (Ok X) z e = clash (cc)
code-told k (Err Form) z e = clash (cc)
code-told k (Err Range) z e = clash (cc)

-- minutes, or x and zero beside it
local-told : (k : ℕ) (b : Result Code FieldError) (x : Bool) (z : ℤ) → local_at k b ≡ says (x, z) → ((x ≡ false) × (b ≡ Ok (Minutes z))) ⊎ ((x ≡ true) × (b ≡ Ok X) × (z ≡ pos 0))
local-told k (Ok (Minutes y)) x z e =
    let w : ◌≡◌ {A = Bool × ℤ} (false, y) (x, z) = cc in
    inl (sym (ap (λ (v : Bool × ℤ). v.0) w), ap (λ (v : Bool × ℤ). (Ok (Minutes v.1))) w)
local-told k (Ok X) x z e =
    let w : ◌≡◌ {A = Bool × ℤ} (true, pos 0) (x, z) = cc in
    inr (sym (ap (λ (v : Bool × ℤ). v.0) w), refl, sym (ap (λ (v : Bool × ℤ). v.1) w))
local-told k (Err Form) x z e = clash (cc)
local-told k (Err Range) x z e = clash (cc)

local-to : (f : List ℕ) (x : Bool) (z : ℤ) → ((x ≡ false) × (code_in true f ≡ Ok (Minutes z))) ⊎ ((x ≡ true) × (code_in true f ≡ Ok X) × (z ≡ pos 0)) → LocalField z x f
local-to f x z (inl (q, e)) = rw q ((code-exactly true f z).0 e)
local-to f x z (inr (q, e, r)) = rw q ((x-exactly f).0 e, r)

local-from : (k : ℕ) (f : List ℕ) (x : Bool) (z : ℤ) → LocalField z x f → local_at k (code_in true f) ≡ says (x, z)
local-from k f false z c = ap (local_at k) ((code-exactly true f z).1 c)
local-from k f true z (h, q) = ap (local_at k) ((x-exactly f).1 h) ∙ ap (λ (y : ℤ). says (true, y)) (sym q)

local-says : (k : ℕ) (f : List ℕ) → Says (local_at k (read_local_code f)) (λ v. LocalField v.1 v.0 f)
unfolding read_local_code
local-says k f = record { exactly = λ v. (λ e. local-to f v.0 v.1 (local-told k (code_in true f) v.0 v.1 e), local-from k f v.0 v.1) }

code-says : (k : ℕ) (f : List ℕ) → Says (code_at k (read_code f)) (λ z. paper.CodeField z f)
unfolding read_code
code-says k f = at-says (code_at k) (λ z. Ok (Minutes z)) (code-told k) (λ z. refl) (code_in false f) (code-exactly false f)

pub codes-line-exactly : (z w : ℤ) (x : Bool) (l : List ℕ) → codes_line l ≡ says (z, x, w) ↔ CodesLine z w x l
unfolding codes_line
codes-line-exactly z w x l =
    let r =
    then-says (count-says 2 l)
    (bind-says (code-says 1 (field_at 1 l)) (λ m.
    bind-says (local-says 2 (field_at 2 l)) (λ v.
    says-says {A = ℤ × Bool × ℤ} (m, v.0, v.1))))
    in (
      λ e.
          let (c, (m, p, (v, q, y))) = (r.exactly (z, x, w)).0 e in
          subst (λ (u : ℤ × Bool × ℤ). CodesLine u.0 u.2 u.1 l) y (record { f = λ i. field_at i l; fields = fields-of 2 l (omega arith) c; time = p; place = q }),
      λ s.
          let (c, e) = fields-here 2 s.f l refl s.fields in
          (r.exactly (z, x, w)).1 (c, (z, rw (e 1 refl) s.time, ((x, w), rw (e 2 refl) s.place, refl))),
    )

pub quality-line-exactly : (q p : ℕ) (l : List ℕ) → quality_line l ≡ says (q, p) ↔ QualityLine q p l
unfolding quality_line
quality-line-exactly q p l =
    let w =
    then-says (count-says 2 l)
    (bind-says (value-says 1 (read_quality (field_at 1 l)) (quality-exactly (field_at 1 l))) (λ x.
    bind-says (value-says 2 (read_leap (field_at 2 l)) (leap-exactly (field_at 2 l))) (λ y.
    says-says {A = ℕ × ℕ} (x, y))))
    in (
      λ e.
          let (c, (x, a, (y, b, z))) = (w.exactly (q, p)).0 e in
          subst (λ (v : ℕ × ℕ). QualityLine v.0 v.1 l) z (record { f = λ i. field_at i l; fields = fields-of 2 l (omega arith) c; quality = a; leap = b }),
      λ s.
          let (c, e) = fields-here 2 s.f l refl s.fields in
          (w.exactly (q, p)).1 (c, (q, rw (e 1 refl) s.quality, (p, rw (e 2 refl) s.leap, refl))),
    )
