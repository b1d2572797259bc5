-- THE THEOREMS on configurations: what is accepted, and shows what, is what crate `paper` tells; nothing else is.
--     last-is              the last of some last rows, told by how they end
--     multiplier-some      a line of a time multiplier is not empty
--     quality-some         nor is one of quality and leap second code
--     pre_is               the time between two date lines, told on the page
--     shown-is             what is shown, part by part
--     last-lines-read      the time multiplier and what follows it, by the edition
--     config-reads         what is read whole is a configuration, and the other way round
--     config-exactly       the bytes s are accepted and show c exactly when they are a configuration that shows c
--     config-refused       they are refused exactly when they are none
--     one-config           a configuration shows one thing
--     sized-config         a configuration's layout is allowed
--     absent-exactly       a configuration shows that it has no last lines exactly where its edition is 1999
-- Assumes nothing.
use mathlib.Core.Path.{◌≡◌, refl, sym, ap, subst, ◌∙◌}
use mathlib.Core.Logic.{◌↔◌, ◌⊎◌, inl, inr}
use mathlib.Core.List.{List, [], ◌∷◌, ◌++◌, append_assoc, append-nil}
use Prim.Native.Nat.{ℕ, ◌-◌, ◌≤◌, max}
use native.Mathlib.Omega.{arith}
use borrow.Author.Tests.{leb-true, le-leb, eqb-true}
use lib.Dec.{eqb, leb}
use lib.ListN.{length, replicate, length-append}
use Rattle.ground.specs.Said.{Said, says, refuses, answer_of}
use Rattle.ground.specs.Quoted.{quoted}
use Rattle.ground.proofs.Cases.{clash}
use Rattle.ground.proofs.Walk as walk
use Rattle.std.proofs.Common.{Err, None, Ok, Option, Result, Some}
use Rattle.clock.specs.declared.Moment.{Moment}
use Rattle.config_rules.specs.declared.LastLines.{LastLines}
use Rattle.clock.specs.declared.Span.{Span}
use Rattle.clock.specs.Spans.{pretrigger_of}
use Rattle.channel_lines.specs.Channels.{channels_line, analog_line, status_line}
use Rattle.config_lines.specs.Lines.{station_line, frequency_line, rates_line, date_line, kind_line, multiplier_line, codes_line, quality_line}
use Rattle.model.specs.declared.Kind.{Kind}
use Rattle.model.specs.declared.Edition.{Edition}
use Rattle.model.specs.declared.Edition.TheVariants.{Y2013, Y1999}
use Rattle.model.specs.declared.Refusal.{Refusal}
use Rattle.model.specs.Refusals.{refused}
use Rattle.model.proofs.LayoutLaws.{sized, sized-has}
use Rattle.config_rules.specs.declared.Config.{Config}
use Rattle.config.specs.Reading.{Place, said_of}
use Rattle.config.specs.Config.{last_of, last_lines, configuration, read_config}
use Rattle.config.proofs.SizedLaws.{accepted-sized}
use Rattle.paper.specs.Lines.{Line, ended, StationLine, ChannelsLine, AnalogLine, StatusLine, FrequencyLine, RatesLine, StampLine, KindLine, MultiplierLine, CodesLine, QualityLine}
use Rattle.paper.specs.Configuration.{Between, EndLines, Configuration}
use Rattle.paper.specs.Data.{Allowed}
use Rattle.exact.proofs.AnswerLaws.{other-told}
use Rattle.exact.proofs.CalendarLaws.{between-exactly}
use Rattle.exact_config.proofs.LineLaws.{station-line-exactly, channels-line-exactly, analog-line-exactly, status-line-exactly, frequency-line-exactly, rates-line-exactly}
use Rattle.exact_config.proofs.LineLaws.{date-line-exactly, stamp-calendar, kind-line-exactly, multiplier-line-exactly, codes-line-exactly, quality-line-exactly}
use Rattle.exact_config.proofs.ConfigLaws.{LastEnd, ReadsLines, reads_as, done-reads, asking_reads, bind-reads, line_reads, last-reads, times-reads, lasts-reads}

last-to : (before : ℕ) (l : List ℕ) → 1 ≤ length l → (others : List ℕ) × (l ≡ others ++ last_of before l ∷ [])
last-to before [] h = absurd (omega arith)
last-to before (r ∷ []) h = ([], refl)
last-to before (r ∷ q ∷ l) h = let (others, e) = last-to r (q ∷ l) (omega arith) in (r ∷ others, ap (◌∷◌ r) e)

last-from : (before : ℕ) (others : List ℕ) (r : ℕ) → last_of before (others ++ r ∷ []) ≡ r
last-from before [] r = refl
last-from before (q ∷ others) r = last-from q others r

pub last-is : (l : List ℕ) (r : ℕ) → 1 ≤ length l → last_of 0 l ≡ r ↔ ((others : List ℕ) × (l ≡ others ++ r ∷ []))
last-is l r h = (
  λ e. rw (← e) (last-to 0 l h),
  λ (others, e). ap (last_of 0) e ∙ last-from 0 others r,
)

pub pre_is : (f t : Option Moment) (k l : List ℕ) (p : Option Span) → StampLine f k → StampLine t l → pretrigger_of f t ≡ p ↔ Between f t p
pre_is f t k l p h g = between-exactly f t (stamp-calendar f k h) (stamp-calendar t l g) p

pub multiplier-some : (l : List ℕ) → MultiplierLine l → 1 ≤ length l
multiplier-some l w =
    let r = w.multiplier in
    let d = r.decimal in
    let a = ap length w.fields.joined in
    let b = ap length r.text in
    let c = ap length d.text in
    omega (arith, simp length-append at a, simp length-append at b, simp length-append at c, d.wholes.some)

pub quality-some : (q p : ℕ) (l : List ℕ) → QualityLine q p l → 1 ≤ length l
quality-some q p l w = let e = ap length w.fields.joined in omega (arith, simp length-append at e)

-- what is shown
shown-is : (c : Config) (lasts : List ℕ) (rows : ℕ) (p : Option Span) → c.lasts ≡ lasts → c.layout.rows ≡ rows → c.pretrigger ≡ p
    → record {
      layout = record { analogs = c.layout.analogs; statuses = c.layout.statuses; rows = rows; kind = c.layout.kind; edition = c.layout.edition };
      rates = c.rates;
      lasts = lasts;
      first = c.first;
      trigger = c.trigger;
      pretrigger = p;
      last = c.last;
    } ≡ c
shown-is c lasts rows p a b d = rw (← a, ← b, ← d)

-- nothing after the last line
end_of : (e u : List ℕ) → LastEnd e u → (e ≡ []) ⊎ (e ≡ quoted "\r\n")
end_of e u (inl q) = inr q
end_of e u (inr (q, z)) = inl q

end-from : (e : List ℕ) → (e ≡ []) ⊎ (e ≡ quoted "\r\n") → LastEnd e []
end-from e (inl q) = inr (q, refl)
end-from e (inr q) = inl q

-- what the lines show together
abbrev shown_by : Edition → ℕ × ℕ → ℕ → List ℕ → Option Moment → Option Moment → Kind → Option LastLines → Config
shown_by edition counts rates lasts first trigger kind last =
    record {
      layout = record { analogs = counts.0; statuses = counts.1; rows = last_of 0 lasts; kind = kind; edition = edition };
      rates = rates;
      lasts = lasts ++ replicate (8 - length lasts) 0;
      first = first;
      trigger = trigger;
      pretrigger = pretrigger_of first trigger;
      last = last;
    }

-- CR LF, two lines and the end, taken apart
end-joined : (l k m x : List ℕ) → l ++ ((13 ∷ 10 ∷ (k ++ m)) ++ x) ≡ ended l ++ (k ++ (m ++ x))
end-joined l k m x = ap (λ (z : List ℕ). l ++ 13 ∷ 10 ∷ z) (append_assoc k m x) ∙ sym (append_assoc l (13 ∷ 10 ∷ []) (k ++ (m ++ x)))

last-lines-read : (e : Edition) → ReadsLines (last_lines e) (λ v s u. (l : List ℕ) × (t : List ℕ) × (end : List ℕ) × (s ≡ l ++ (t ++ (end ++ u))) × Line MultiplierLine l × EndLines e v t × LastEnd end u)
last-lines-read Y1999 =
    reads_as
    (bind-reads (last-reads multiplier_line (λ z. MultiplierLine) (λ z. multiplier-line-exactly) (λ z. multiplier-some)) (λ z. done-reads None))
    (λ v s u. (
      λ (z, w, (l, end, q, g, ends), (a, b)). (l, [], end, q ∙ ap (λ (x : List ℕ). l ++ (end ++ x)) b, g, (sym a, refl), subst (LastEnd end) b ends),
      λ (l, t, end, q, g, (a, b), ends). (tt, u, (l, end, q ∙ ap (λ (x : List ℕ). l ++ (x ++ (end ++ u))) b, g, ends), (sym a, refl)),
    ))
last-lines-read Y2013 =
    reads_as
    (bind-reads (line_reads multiplier_line (λ z. MultiplierLine) (λ z. multiplier-line-exactly)) (λ z.
    bind-reads (line_reads codes_line (λ v. CodesLine v.0 v.2 v.1) (λ v. codes-line-exactly v.0 v.2 v.1)) (λ c.
    bind-reads (last-reads quality_line (λ v. QualityLine v.0 v.1) (λ v. quality-line-exactly v.0 v.1) (λ v. quality-some v.0 v.1)) (λ p.
    done-reads (Some (record { code = c.0; x = c.1; local = c.2; quality = p.0; leap = p.1 }))))))
    (λ v s u. (
      λ (z, s9, (l9, i9, g9), (c, s10, (l10, i10, g10), (p, s11, (l11, end, i11, g11, ends), (a, b)))). (
        l9,
        13 ∷ 10 ∷ (ended l10 ++ l11),
        end,
        i9 ∙ ap (◌++◌ (ended l9)) (i10 ∙ ap (◌++◌ (ended l10)) (i11 ∙ ap (λ (x : List ℕ). l11 ++ (end ++ x)) b)) ∙ sym (end-joined l9 (ended l10) l11 (end ++ u)),
        g9,
        (record { code = c.0; x = c.1; local = c.2; quality = p.0; leap = p.1 }, l10, l11, sym a, g10, g11, refl),
        subst (LastEnd end) b ends,
      ),
      λ (l9, t, end, q, g9, (e, l10, l11, a, g10, g11, b), ends). (
        tt,
        ended l10 ++ (l11 ++ (end ++ u)),
        (l9, q ∙ ap (λ (x : List ℕ). l9 ++ (x ++ (end ++ u))) b ∙ end-joined l9 (ended l10) l11 (end ++ u), g9),
        ((e.code, e.x, e.local), l11 ++ (end ++ u), (l10, refl, g10), ((e.quality, e.leap), u, (l11, end, refl, g11, ends), (sym a, refl))),
      ),
    ))

-- what follows from what is given
given : {A C : Type 0} → A → (A → C) → C
given a k = k a

config-reads : (s : List ℕ) (c : Config) → ((p : Place) × (configuration (1, s) ≡ says (c, p))) ↔ Configuration s c
unfolding configuration
config-reads s c =
    let reads =
    bind-reads (asking_reads (λ s. leb (length s) 65536) (λ n. refused 1 0 0)) (λ z0.
    bind-reads (line_reads station_line StationLine station-line-exactly) (λ e.
    bind-reads (line_reads channels_line (λ v. ChannelsLine v.0 v.1) (λ v. channels-line-exactly v.0 v.1)) (λ v2.
    bind-reads (times-reads analog_line AnalogLine analog-line-exactly v2.0 1) (λ z3.
    bind-reads (times-reads status_line StatusLine status-line-exactly v2.1 1) (λ z4.
    bind-reads (line_reads frequency_line (λ z. FrequencyLine) (λ z. frequency-line-exactly)) (λ z5.
    bind-reads (line_reads rates_line RatesLine rates-line-exactly) (λ r.
    bind-reads (lasts-reads r (max 1 r) 0) (λ lasts.
    bind-reads (line_reads date_line StampLine date-line-exactly) (λ f.
    bind-reads (line_reads date_line StampLine date-line-exactly) (λ t.
    bind-reads (line_reads (kind_line e) (KindLine e) (kind-line-exactly e)) (λ k.
    bind-reads (last-lines-read e) (λ last.
    bind-reads (asking_reads (λ s. eqb (length s) 0) (λ n. refused 9 n 0)) (λ z12.
    done-reads (shown_by e v2 r lasts f t k last))))))))))))))
    in (
      λ (p, e).
          given ((reads.exactly 1 s c p.1).0 (p.0, e)) (λ (z0, s0, (small, i0), start).
          given start (λ (edition, s1, (l1, i1, g1), (v2, s2, (l2, i2, g2), (z3, s3, (t3, i3, g3), (z4, s4, (t4, i4, g4), (z5, s5, (l5, i5, g5), (r, s6, (l6, i6, g6), more)))))).
          given more (λ (lasts, s7, (t6, i7, n7, g7), (f, s8, (l7, i8, g8), (t, s9, (m7, i9, g9), (k, s10, (l8, i10, g10), last)))).
          given last (λ (v11, s11, (l9, t10, end, i11, g11, g12, ends), (z12, s12, (none, i12), (shown, i13))).
          let nothing : s11 ≡ [] = walk.none s11 (omega (arith, eqb-true (length s11) 0 none)) in
          let some : 1 ≤ length lasts = omega arith in
          subst (λ (x : Config). Configuration s x) shown (record {
            l1 = l1;
            station = g1;
            l2 = l2;
            channels = g2;
            t3 = t3;
            analogs = g3;
            t4 = t4;
            statuses = g4;
            l5 = l5;
            frequency = g5;
            l6 = l6;
            rates = g6;
            lasts = lasts;
            t6 = t6;
            rate_lines = g7;
            rate_count = n7;
            lasts_shown = refl;
            rows = (last-is lasts (last_of 0 lasts) some).0 refl;
            l7 = l7;
            first = g8;
            m7 = m7;
            trigger = g9;
            pretrigger = (pre_is f t l7 m7 (pretrigger_of f t) g8.is g9.is).0 refl;
            l8 = l8;
            kind = g10;
            l9 = l9;
            multiplier = g11;
            t10 = t10;
            last = g12;
            end = end;
            ends = end_of end s11 ends;
            whole = i0 ∙ i1 ∙ ap (◌++◌ (ended l1)) (i2 ∙ ap (◌++◌ (ended l2)) (i3 ∙ ap (◌++◌ t3) (i4 ∙ ap (◌++◌ t4) (i5 ∙ ap (◌++◌ (ended l5)) (i6 ∙ ap (◌++◌ (ended l6))
                (i7 ∙ ap (◌++◌ t6) (i8 ∙ ap (◌++◌ (ended l7)) (i9 ∙ ap (◌++◌ (ended m7)) (i10 ∙ ap (◌++◌ (ended l8))
                (i11 ∙ ap (λ (x : List ℕ). l9 ++ (t10 ++ (end ++ x))) nothing ∙ ap (λ (x : List ℕ). l9 ++ (t10 ++ x)) (append-nil end)))))))))));
            small = leb-true (length s) 65536 small;
          }))))),
      λ w.
          let s10 = w.l9 ++ (w.t10 ++ w.end) in
          let s9 = ended w.l8 ++ s10 in
          let s8 = ended w.m7 ++ s9 in
          let s7 = ended w.l7 ++ s8 in
          let s6 = w.t6 ++ s7 in
          let s5 = ended w.l6 ++ s6 in
          let s4 = ended w.l5 ++ s5 in
          let s3 = w.t4 ++ s4 in
          let s2 = w.t3 ++ s3 in
          let s1 = ended w.l2 ++ s2 in
          let n = w.rate_count in
          let some : 1 ≤ length w.lasts = omega arith in
          let shown = shown-is c (w.lasts ++ replicate (8 - length w.lasts) 0) (last_of 0 w.lasts) (pretrigger_of c.first c.trigger)
          w.lasts_shown
          (sym ((last-is w.lasts c.layout.rows some).1 w.rows))
          (sym ((pre_is c.first c.trigger w.l7 w.m7 c.pretrigger w.first.is w.trigger.is).1 w.pretrigger))
          in
          let (k, e) = (reads.exactly 1 s c []).1 (
            tt,
            s,
            (le-leb (length s) 65536 w.small, refl),
            (
              c.layout.edition,
              s1,
              (w.l1, w.whole, w.station),
              (
                (c.layout.analogs, c.layout.statuses),
                s2,
                (w.l2, refl, w.channels),
                (
                  tt,
                  s3,
                  (w.t3, refl, w.analogs),
                  (
                    tt,
                    s4,
                    (w.t4, refl, w.statuses),
                    (
                      tt,
                      s5,
                      (w.l5, refl, w.frequency),
                      (
                        c.rates,
                        s6,
                        (w.l6, refl, w.rates),
                        (
                          w.lasts,
                          s7,
                          (w.t6, refl, w.rate_count, w.rate_lines),
                          (
                            c.first,
                            s8,
                            (w.l7, refl, w.first),
                            (
                              c.trigger,
                              s9,
                              (w.m7, refl, w.trigger),
                              (
                                c.layout.kind,
                                s10,
                                (w.l8, refl, w.kind),
                                (
                                  c.last,
                                  [],
                                  (w.l9, w.t10, w.end, ap (λ (x : List ℕ). w.l9 ++ (w.t10 ++ x)) (sym (append-nil w.end)), w.multiplier, w.last, end-from w.end w.ends),
                                  (tt, [], (refl, refl), (shown, refl)),
                                ),
                              ),
                            ),
                          ),
                        ),
                      ),
                    ),
                  ),
                ),
              ),
            ),
          )
          in
          ((k, []), e),
    )

-- what is accepted was said
accepted-said : (x : Said Refusal (Config × Place)) (c : Config) → answer_of (said_of x) ≡ Ok c → (p : Place) × (x ≡ says (c, p))
accepted-said (says (d, p)) c e = let q : d ≡ c = cc in (p, rw q)
accepted-said (refuses r) c e = clash (cc)

pub config-exactly : (s : List ℕ) (c : Config) → read_config s ≡ Ok c ↔ Configuration s c
unfolding read_config
config-exactly s c = (
  λ e. (config-reads s c).0 (accepted-said (configuration (1, s)) c e),
  λ w. ap (λ (x : Said Refusal (Config × Place)). answer_of (said_of x)) ((config-reads s c).1 w).1,
)

-- an answer is a configuration or a refusal
answer-cases : (x : Result Config Refusal) → ((r : Refusal) × (x ≡ Err r)) ⊎ ((c : Config) × (x ≡ Ok c))
answer-cases (Ok c) = inr (c, refl)
answer-cases (Err r) = inl (r, refl)

pub config-refused : (s : List ℕ) → ((c : Config) → Configuration s c → ⊥) ↔ ((r : Refusal) × (read_config s ≡ Err r))
config-refused s =
    let w = other-told (answer-cases (read_config s)) (λ (c, y) (r, n). clash (cc)) in
    (λ h. w.1 (λ (c, y). h c ((config-exactly s c).0 y)), λ n c h. w.0 n (c, (config-exactly s c).1 h))

pub one-config : (s : List ℕ) (c d : Config) → Configuration s c → Configuration s d → c ≡ d
one-config s c d h g = let p = (config-exactly s c).1 h in let q = (config-exactly s d).1 g in cc

pub sized-config : (s : List ℕ) (c : Config) → Configuration s c → Allowed c.layout
sized-config s c h =
    let size = accepted-sized s c ((config-exactly s c).1 h) in
    (sized c.layout size, sized-has c.layout size)

-- the last two lines by the edition
end-absent : (e : Edition) (v : Option LastLines) (t : List ℕ) → EndLines e v t → v ≡ None ↔ (e ≡ Y1999)
end-absent Y1999 v t (a, b) = (λ q. refl, λ q. a)
end-absent Y2013 v t w = let a = w.3 in (λ q. clash (cc), λ q. clash (cc))

pub absent-exactly : (s : List ℕ) (c : Config) → Configuration s c → c.last ≡ None ↔ (c.layout.edition ≡ Y1999)
absent-exactly s c w = end-absent c.layout.edition c.last w.t10 w.last
