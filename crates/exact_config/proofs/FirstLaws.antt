-- A refusal of a line, exactly placed: the lines before it are right in their places, and then comes none that is right.
--     Stops                         a reader that begins where x is due refuses only where no right line comes after right lines
--     Walks                         such a reader, of which is told too what is due after it
--     bind_stops, bind-walks        one reader after another
--     line-walks, last-stops        a line by its rule; the last line, which may end with the file
--     times-walks, lasts-walks      so many lines; the lines of rates
--     first-fault                   a configuration that is refused with 2 to 8 at line k first fails there
-- Assumes nothing.
use mathlib.Core.Path.{◌≡◌, refl, sym, ap, subst, ◌∙◌}
use mathlib.Core.Logic.{◌↔◌, ◌⊎◌, inl, inr, ⊎_elim}
use mathlib.Core.Bool.{Bool, true, false}
use mathlib.Core.List.{List, [], ◌∷◌, ◌++◌, append_assoc, append-nil}
use Prim.Native.Nat.{ℕ, zero, suc, ◌+◌, ◌-◌, ◌≤◌, ◌<◌, max}
use native.Mathlib.Nat.{add-zero, zero-add, suc-add}
use native.Mathlib.Omega.{arith}
use lib.Dec.{eqb, leb}
use lib.ListN.{length, take, drop}
use Rattle.ground.specs.Said.{Said, says, refuses, answer_of}
use Rattle.ground.specs.Said as said
use Rattle.ground.proofs.Cases.{clash}
use Rattle.ground.proofs.SaidLaws.{bind-told}
use Rattle.std.proofs.Common.{Err, Ok, Result}
use Rattle.text.specs.declared.Line as text
use Rattle.text.specs.declared.LineError.{LineError}
use Rattle.text.specs.declared.LineError.TheVariants.{Bad, Ends}
use Rattle.text.specs.Lines.{scan_line, scan_last_line}
use Rattle.line_fields.specs.declared.Fault.{Fault}
use Rattle.channel_lines.specs.Channels.{channels_line, analog_line, status_line}
use Rattle.config_lines.specs.Lines.{station_line, frequency_line, rates_line, rate_line, date_line, kind_line, multiplier_line, codes_line, quality_line}
use Rattle.model.specs.declared.Edition.{Edition}
use Rattle.model.specs.declared.Edition.TheVariants.{Y2013, Y1999}
use Rattle.model.specs.declared.Refusal.{Refusal}
use Rattle.model.proofs.NumberLaws.{number-back}
use Rattle.model.specs.Refusals.{refused, reason_number}
use Rattle.config_rules.specs.declared.Config.{Config}
use Rattle.config.specs.Reading.{Place, Reader, said_of, in_line, scanned, done, asking, line, last_line, times, refused_in}
use Rattle.config.specs.Reading as paper
use Rattle.config.specs.Config.{last_rows, last_lines, configuration, read_config}
use Rattle.paper.specs.Lines.{Line, ended, StationLine, ChannelsLine, AnalogLine, StatusLine, FrequencyLine, RatesLine, rate_sign, RateLine, StampLine, KindLine, MultiplierLine, CodesLine, QualityLine}
use Rattle.paper.specs.Order.{Due, station, channels, frequency, rates, rate, first, trigger, kind, multiplier, codes, quality, status_due, analog_due, rate_due, Right, RightLines, MayEnd, NoneRight, FailsAt}
use Rattle.exact_config.proofs.LineLaws.{station-line-exactly, channels-line-exactly, analog-line-exactly, status-line-exactly, frequency-line-exactly, rates-line-exactly}
use Rattle.exact_config.proofs.LineLaws.{rate-line-exactly, date-line-exactly, kind-line-exactly, multiplier-line-exactly, codes-line-exactly, quality-line-exactly}
use Rattle.exact_config.proofs.ConfigLaws.{said-parts, in-line-told, line_reads, last-reads}
use Rattle.exact_config.proofs.ExactLaws.{multiplier-some, quality-some}

-- from where x is due on s first fails at line k, the first line being n
abbrev Fails : ℕ → Due → List ℕ → ℕ → Type 0
Fails n x s k = (j : ℕ) × (k ≡ n + j) × (t : List ℕ) × (u : List ℕ) × (s ≡ t ++ u) × (y : Due) × RightLines j x t y × NoneRight y u

-- a refusal that is of a line
abbrev OfLine : Refusal → Type 0
OfLine r = (2 ≤ reason_number r.reason) × (reason_number r.reason < 9)

pub record Stops {A : Type 0} (r : Reader A) (x : Due) : Type 0 where
  pub fails : (n : ℕ) (s : List ℕ) (e : Refusal) → r (n, s) ≡ refuses e → OfLine e → Fails n x s e.at

pub record Walks {A : Type 0} (r : Reader A) (x : Due) (after : A → Due) : Type 0 where
  pub stops : Stops r x
  pub passes : (n : ℕ) (s : List ℕ) (a : A) (k : ℕ) (u : List ℕ) → r (n, s) ≡ says (a, (k, u)) → (j : ℕ) × (k ≡ n + j) × (t : List ℕ) × (s ≡ t ++ u) × RightLines j x t (after a)

-- right lines and then more
lines_join : (j i : ℕ) (x y z : Due) (t u : List ℕ) → RightLines j x t y → RightLines i y u z → RightLines (j + i) x (t ++ u) z
lines_join zero i x y z t u (e, q) h = rw (e, q, zero-add) h
lines_join (suc j) i x y z t u (l, v, w, e, r, g) h =
    rw (suc-add j i) (l, v ++ u, w, ap (λ (a : List ℕ). a ++ u) e ∙ append_assoc (ended l) v u, r, lines_join j i w y z v u g h)

fails-later : (n k j : ℕ) (x y : Due) (s t u : List ℕ) (m : ℕ) → k ≡ n + j → s ≡ t ++ u → RightLines j x t y → Fails k y u m → Fails n x s m
fails-later n k j x y s t u m q e g (i, p, v, w, f, z, h, none) =
    (j + i, omega arith, t ++ v, w, e ∙ ap (◌++◌ t) f ∙ sym (append_assoc t v w), z, lines_join j i x y z t v g h, none)

bind-cases : {R A B : Type 0} (x : Said R A) (f : A → Said R B) (r : R) → said.◌>>=◌ x f ≡ refuses r → (x ≡ refuses r) ⊎ ((a : A) × (x ≡ says a) × (f a ≡ refuses r))
bind-cases (says a) f r e = inr (a, refl, e)
bind-cases (refuses q) f r e = inl (cc)

bind-fails : {A B : Type 0} (r : Reader A) (x : Due) (after : A → Due) (next : A → Reader B) → Walks r x after → ((a : A) → Stops (next a) (after a))
    → (n : ℕ) (s : List ℕ) (e : Refusal) → OfLine e → (r (n, s) ≡ refuses e) ⊎ ((q : A × Place) × (r (n, s) ≡ says q) × (next q.0 q.1 ≡ refuses e)) → Fails n x s e.at
bind-fails r x after next h g n s e o (inl f) = h.stops.fails n s e f o
bind-fails r x after next h g n s e o (inr (q, f, p)) =
    let (j, k, t, w, l) = h.passes n s q.0 q.1.0 q.1.1 f in
    fails-later n q.1.0 j x (after q.0) s t q.1.1 e.at k w l ((g q.0).fails q.1.0 q.1.1 e p o)

pub bind_stops : {A B : Type 0} {r : Reader A} {x : Due} {after : A → Due} {next : A → Reader B} → Walks r x after → ((a : A) → Stops (next a) (after a)) → Stops (paper.◌>>=◌ r next) x
bind_stops {A} {B} {r} {x} {after} {next} h g =
    record { fails = λ n s e f o. bind-fails r x after next h g n s e o (bind-cases (r (n, s)) (λ q. next q.0 q.1) e f) }

pub bind-walks : {A B : Type 0} {r : Reader A} {x : Due} {after : A → Due} {next : A → Reader B} {then : B → Due} → Walks r x after → ((a : A) → Walks (next a) (after a) then)
    → Walks (paper.◌>>=◌ r next) x then
bind-walks {A} {B} {r} {x} {after} {next} {then} h g =
    record {
      stops = bind_stops h (λ a. (g a).stops);
      passes = λ n s b k u e.
          let ((a, (i, v)), f, p) = bind-told (r (n, s)) (λ q. next q.0 q.1) (b, (k, u)) e in
          let (j, q, t, w, l) = h.passes n s a i v f in
          let (m, y, z, d, c) = (g a).passes i v b k u p in
          (j + m, omega arith, t ++ z, w ∙ ap (◌++◌ t) d ∙ sym (append_assoc t z u), lines_join j m x (after a) (then b) t z l c);
    }

-- what stays in its place
stays : (n : ℕ) (s : List ℕ) (k : ℕ) (u : List ℕ) (x : Due) → ◌≡◌ {A = Place} (n, s) (k, u) → (j : ℕ) × (k ≡ n + j) × (t : List ℕ) × (s ≡ t ++ u) × RightLines j x t x
stays n s k u x p = (0, sym (ap (λ (z : Place). z.0) p) ∙ sym (add-zero n), [], ap (λ (z : Place). z.1) p, (refl, refl))

pub done-walks : {A : Type 0} (c : A) (x : Due) → Walks (done c) x (λ a. x)
done-walks c x =
    record {
      stops = record { fails = λ n s e f o. clash (cc) };
      passes = λ n s a k u e. stays n s k u x (said-parts c a (n, s) (k, u) e).1;
    }

asking-told : (t : Bool) (r : Refusal) (p q : Place) (z : Unit {0}) → asking t r p ≡ says (z, q) → p ≡ q
asking-told true r p q z e = (said-parts tt z p q e).1
asking-told false r p q z e = clash (cc)

asking-refused : (t : Bool) (r e : Refusal) (p : Place) → asking t r p ≡ refuses e → r ≡ e
asking-refused true r e p f = clash (cc)
asking-refused false r e p f = cc

-- a test whose refusal is of no line
pub asking_walks : (test : List ℕ → Bool) (refusal : ℕ → Refusal) (x : Due) → ((n : ℕ) → OfLine (refusal n) → ⊥) → Walks (λ p. asking (test p.1) (refusal p.0) p) x (λ u. x)
asking_walks test refusal x other =
    record {
      stops = record { fails = λ n s e f o. let q = asking-refused (test s) (refusal n) e (n, s) f in absurd (other n (rw q o)) };
      passes = λ n s a k u e. stays n s k u x (asking-told (test s) (refusal n) (n, s) (k, u) a e);
    }

-- a line's refusal is told with its number
in-line-at : {A : Type 0} (n : ℕ) (p : Place) (e : Refusal) (x : Said Fault A) → in_line n p x ≡ refuses e → e.at ≡ n
in-line-at n p e (says a) q = clash (cc)
in-line-at n p e (refuses f) q = let w : refused_in n f ≡ e = cc in ap (λ (r : Refusal). r.at) (sym w)

scanned-at : {A : Type 0} (rule : List ℕ → Said Fault A) (n : ℕ) (s : List ℕ) (e : Refusal) (f : Result text.Line LineError) → scanned rule (n, s) f ≡ refuses e → e.at ≡ n
scanned-at rule n s e (Ok one) q = in-line-at n (n + 1, drop one.taken s) e (rule (take one.len s)) q
scanned-at rule n s e (Err Ends) q = let w : refused 2 n 0 ≡ e = cc in ap (λ (r : Refusal). r.at) (sym w)
scanned-at rule n s e (Err Bad) q = let w : refused 3 n 0 ≡ e = cc in ap (λ (r : Refusal). r.at) (sym w)

-- the next line has the next number
scanned-place : {A : Type 0} (rule : List ℕ → Said Fault A) (n : ℕ) (s : List ℕ) (a : A) (k : ℕ) (u : List ℕ) (f : Result text.Line LineError) → scanned rule (n, s) f ≡ says (a, (k, u)) → k ≡ n + 1
scanned-place rule n s a k u (Ok one) q = ap (λ (z : Place). z.0) (sym (in-line-told n (n + 1, drop one.taken s) (k, u) a (rule (take one.len s)) q).1)
scanned-place rule n s a k u (Err Ends) q = clash (cc)
scanned-place rule n s a k u (Err Bad) q = clash (cc)

-- a line that is right where x is due exactly where it is P a, a line
module _ {A : Type 0} (rule : List ℕ → Said Fault A) (P : A → List ℕ → Type 0) (exactly : (a : A) (l : List ℕ) → rule l ≡ says a ↔ P a l)
    (x : Due) (from : (l : List ℕ) (z : Due) → Right x l z → (a : A) × Line (P a) l) where
  pub line-walks : (after : A → Due) → ((a : A) (l : List ℕ) → Line (P a) l → Right x l (after a)) → (MayEnd x → ⊥) → Walks (line rule) x after
  line-walks after to early =
      record {
        stops = record {
          fails = λ n s e f o. (
            0,
            scanned-at rule n s e (scan_line (length s) s) f ∙ sym (add-zero n),
            [],
            s,
            refl,
            x,
            (refl, refl),
            record {
              ended_line = λ l v z q r.
                  let (a, g) = from l z r in
                  let (k, h) = ((line_reads rule P exactly).exactly n s a v).1 (l, q, g) in
                  clash (cc);
              last_line = λ q. absurd (early q);
            },
          );
        };
        passes = λ n s a k u e.
            let (l, q, g) = ((line_reads rule P exactly).exactly n s a u).0 (k, e) in
            (1, scanned-place rule n s a k u (scan_line (length s) s) e, ended l, q, (l, [], after a, sym (append-nil (ended l)), to a l g, (refl, refl)));
      }

  pub last-stops : ((a : A) (l : List ℕ) → P a l → 1 ≤ length l) → Stops (last_line rule) x
  last-stops some =
      record {
        fails = λ n s e f o. (
          0,
          scanned-at rule n s e (scan_last_line (length s) s) f ∙ sym (add-zero n),
          [],
          s,
          refl,
          x,
          (refl, refl),
          record {
            ended_line = λ l v z q r.
                let (a, g) = from l z r in
                let (k, h) = ((last-reads rule P exactly some).exactly n s a v).1 (l, 13 ∷ 10 ∷ [], q ∙ append_assoc l (13 ∷ 10 ∷ []) v, g, inl refl) in
                clash (cc);
            last_line = λ q z r.
                let (a, g) = from s z r in
                let (k, h) = ((last-reads rule P exactly some).exactly n s a []).1 (s, [], sym (append-nil s), g, inr (refl, refl)) in
                clash (cc);
          },
        );
      }

-- what follows refuses with no line's refusal
only-fails : {A B : Type 0} (r : Reader A) (x : Due) (next : A → Reader B) → Stops r x → ((a : A) (p : Place) (e : Refusal) → next a p ≡ refuses e → OfLine e → ⊥)
    → (n : ℕ) (s : List ℕ) (e : Refusal) → OfLine e → (r (n, s) ≡ refuses e) ⊎ ((q : A × Place) × (r (n, s) ≡ says q) × (next q.0 q.1 ≡ refuses e)) → Fails n x s e.at
only-fails r x next h g n s e o (inl f) = h.fails n s e f o
only-fails r x next h g n s e o (inr (q, f, p)) = absurd (g q.0 q.1 e p o)

pub only-stops : {A B : Type 0} {r : Reader A} {x : Due} {next : A → Reader B} → Stops r x → ((a : A) (p : Place) (e : Refusal) → next a p ≡ refuses e → OfLine e → ⊥) → Stops (paper.◌>>=◌ r next) x
only-stops {A} {B} {r} {x} {next} h g =
    record { fails = λ n s e f o. only-fails r x next h g n s e o (bind-cases (r (n, s)) (λ q. next q.0 q.1) e f) }

-- so many lines that say nothing; due i m is where m of them are due, the first of them i
pub times-walks : (rule : ℕ → List ℕ → Said Fault (Unit {0})) (P : ℕ → List ℕ → Type 0) → ((i : ℕ) (l : List ℕ) → rule i l ≡ says tt ↔ P i l)
    → (due : ℕ → ℕ → Due) (end : Due) → ((i : ℕ) → due i 0 ≡ end) → ((i m : ℕ) (l : List ℕ) → Line (P i) l → Right (due i (suc m)) l (due (i + 1) m))
    → ((i m : ℕ) (l : List ℕ) (z : Due) → Right (due i (suc m)) l z → Line (P i) l) → ((i m : ℕ) → MayEnd (due i (suc m)) → ⊥)
    → (m i : ℕ) → Walks (times m i (λ i. line (rule i))) (due i m) (λ u. end)
times-walks rule P exactly due end over to from early zero i = subst (λ (y : Due). Walks (done tt) (due i 0) (λ u. y)) (over i) (done-walks tt (due i 0))
times-walks rule P exactly due end over to from early (suc m) i =
    bind-walks
    (line-walks (rule i) (λ u. P i) (λ u. exactly i) (due i (suc m)) (λ l z r. (tt, from i m l z r)) (λ u. due (i + 1) m) (λ u. to i m) (early i m))
    (λ u. times-walks rule P exactly due end over to from early m (i + 1))

-- the lines of n rates
pub lasts-walks : (e : Edition) (n m before : ℕ) → Walks (last_rows (eqb n 0) m before) (rate_due e n m before) (λ lasts. first e)
lasts-walks e n zero before = done-walks [] (first e)
lasts-walks e n (suc m) before =
    bind-walks
    (line-walks (rate_line (eqb n 0) before) (RateLine (rate_sign n) before) (rate-line-exactly n before) (rate e n m before) (λ l z r. (r.0, r.1))
    (λ last. rate_due e n m last) (λ last l g. (last, g, refl)) (⊎_elim (λ q. clash (cc)) (λ q. clash (cc))))
    (λ last. bind-walks (lasts-walks e n m last) (λ others. done-walks (last ∷ others) (first e)))

-- 9, or nothing
nothing-more : {A : Type 0} (c : A) (p : Place) (e : Refusal) → paper.◌>>◌ (λ q. asking (eqb (length q.1) 0) (refused 9 q.0 0) q) (done c) p ≡ refuses e → OfLine e → ⊥
nothing-more c p e f o = nine (bind-cases (asking (eqb (length p.1) 0) (refused 9 p.0 0) p) (λ q. done c q.1) e f)
  where
    nine : (asking (eqb (length p.1) 0) (refused 9 p.0 0) p ≡ refuses e)
        ⊎ ((q : Unit {0} × Place) × (asking (eqb (length p.1) 0) (refused 9 p.0 0) p ≡ says q) × (done c q.1 ≡ refuses e)) → ⊥
    nine (inl h) = let w = ap (λ (r : Refusal). reason_number r.reason) (asking-refused (eqb (length p.1) 0) (refused 9 p.0 0) e p h) in absurd (omega arith)
    nine (inr (q, h, g)) = clash (cc)

-- the time multiplier, and what follows it
last-lines-stop : (e : Edition) → Stops (last_lines e) (multiplier e)
last-lines-stop Y1999 =
    only-stops (last-stops multiplier_line (λ z. MultiplierLine) (λ z. multiplier-line-exactly) (multiplier Y1999) (λ l z r. (tt, r.0)) (λ z. multiplier-some)) (λ z p e f. clash (cc))
last-lines-stop Y2013 =
    bind_stops (line-walks multiplier_line (λ z. MultiplierLine) (λ z. multiplier-line-exactly) (multiplier Y2013) (λ l z r. (tt, r.0)) (λ z. codes) (λ z l g. (g, refl))
    (⊎_elim (λ q. clash (cc)) (λ q. clash (cc)))) (λ z.
    bind_stops (line-walks codes_line (λ v. CodesLine v.0 v.2 v.1) (λ v. codes-line-exactly v.0 v.2 v.1) codes (λ l z r. ((r.0, r.2, r.1), r.3))
    (λ v. quality) (λ v l g. (v.0, v.2, v.1, g, refl)) (⊎_elim (λ q. clash (cc)) (λ q. clash (cc)))) (λ v.
    only-stops (last-stops quality_line (λ v. QualityLine v.0 v.1) (λ v. quality-line-exactly v.0 v.1) quality (λ l z r. ((r.0, r.1), r.2))
    (λ v. quality-some v.0 v.1)) (λ w p e f. clash (cc))))

config-stops : Stops configuration station
unfolding configuration
config-stops =
    bind_stops (asking_walks (λ s. leb (length s) 65536) (λ n. refused 1 0 0) station (λ n o. absurd (omega arith))) (λ z0.
    bind_stops (line-walks station_line StationLine station-line-exactly station (λ l z r. (r.0, r.1)) channels (λ e l g. (e, g, refl)) (⊎_elim (λ q. clash (cc)) (λ q. clash (cc)))) (λ e.
    bind_stops (line-walks channels_line (λ v. ChannelsLine v.0 v.1) (λ v. channels-line-exactly v.0 v.1) (channels e) (λ l z r. ((r.0, r.1), r.2))
    (λ v. analog_due e 1 v.0 v.1) (λ v l g. (v.0, v.1, g, refl)) (⊎_elim (λ q. clash (cc)) (λ q. clash (cc)))) (λ v2.
    bind_stops (times-walks analog_line AnalogLine analog-line-exactly (λ i m. analog_due e i m v2.1) (status_due e 1 v2.1) (λ i. refl)
    (λ i m l g. (g, refl)) (λ i m l z r. r.0) (λ i m. ⊎_elim (λ q. clash (cc)) (λ q. clash (cc))) v2.0 1) (λ z3.
    bind_stops (times-walks status_line StatusLine status-line-exactly (status_due e) (frequency e) (λ i. refl) (λ i m l g. (g, refl)) (λ i m l z r. r.0)
    (λ i m. ⊎_elim (λ q. clash (cc)) (λ q. clash (cc))) v2.1 1) (λ z4.
    bind_stops (line-walks frequency_line (λ z. FrequencyLine) (λ z. frequency-line-exactly) (frequency e) (λ l z r. (tt, r.0)) (λ z. rates e) (λ z l g. (g, refl)) (⊎_elim (λ q. clash (cc)) (λ q. clash (cc)))) (λ z5.
    bind_stops (line-walks rates_line RatesLine rates-line-exactly (rates e) (λ l z r. (r.0, r.1)) (λ n. rate_due e n (max 1 n) 0) (λ n l g. (n, g, refl)) (⊎_elim (λ q. clash (cc)) (λ q. clash (cc)))) (λ r.
    bind_stops (lasts-walks e r (max 1 r) 0) (λ lasts.
    bind_stops (line-walks date_line StampLine date-line-exactly (first e) (λ l z r. (r.0, r.1))
    (λ v. trigger e) (λ v l g. (v, g, refl)) (⊎_elim (λ q. clash (cc)) (λ q. clash (cc)))) (λ f.
    bind_stops (line-walks date_line StampLine date-line-exactly (trigger e) (λ l z r. (r.0, r.1))
    (λ v. kind e) (λ v l g. (v, g, refl)) (⊎_elim (λ q. clash (cc)) (λ q. clash (cc)))) (λ t.
    bind_stops (line-walks (kind_line e) (KindLine e) (kind-line-exactly e) (kind e) (λ l z r. (r.0, r.1)) (λ k. multiplier e) (λ k l g. (k, g, refl)) (⊎_elim (λ q. clash (cc)) (λ q. clash (cc)))) (λ k.
    only-stops (last-lines-stop e) (λ last. nothing-more _))))))))))))

refused-said : (x : Said Refusal (Config × Place)) (r : Refusal) → answer_of (said_of x) ≡ Err r → x ≡ refuses r
refused-said (says (c, p)) r e = clash (cc)
refused-said (refuses t) r e = cc

pub first-fault : (s : List ℕ) (n k f : ℕ) → read_config s ≡ Err (refused n k f) → 2 ≤ n → n < 9 → FailsAt k s
unfolding read_config
first-fault s n k f e least most =
    let (j, q, t, u, w, y, l, none) = config-stops.fails 1 s (refused n k f) (refused-said (configuration (1, s)) (refused n k f) e) (rw (number-back n) (least, most)) in
    let m : j ≡ k - 1 = omega arith in
    record { before = t; rest = u; whole = w; due = y; right = subst (λ (i : ℕ). RightLines i station t y) m l; wrong = none }
