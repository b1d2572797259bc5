-- A configuration that is written again: it is one, and shows what it showed, in its new kind.
--     text-is                     what is written of a configuration, part by part
--     rewritten-configuration     it is a configuration, where the edition has the kind, and shows the same in all but the kind
--     rewritten-long              it is longer by at most 5 bytes
--     rewritten-lines             it is the lines of the configuration, each as it is written, with its CR LF
-- Assumes nothing.
use mathlib.Core.Path.{◌≡◌, refl, ap, ◌∙◌}
use mathlib.Core.Logic.{◌⊎◌, inl, inr}
use mathlib.Core.Bool.{true}
use mathlib.Core.List.{List, [], ◌∷◌, ◌++◌, append_assoc, append-nil}
use Prim.Native.Nat.{ℕ, ◌+◌, ◌≤◌, max}
use native.Mathlib.Omega.{arith}
use lib.ListN.{length, get_or, replicate, length-append}
use Rattle.ground.specs.Quoted.{quoted}
use Rattle.ground.specs.Tables.{cat}
use Rattle.ground.proofs.Cases.{clash}
use Rattle.model.specs.declared.Kind.{Kind}
use Rattle.model.specs.declared.Edition.{Edition}
use Rattle.model.specs.Editions.{has_kind}
use Rattle.config_rules.specs.declared.Config.{Config}
use Rattle.config_rules.specs.Shown.{with_kind}
use Rattle.paper.specs.Lines.{ended, rate_sign, AnalogLine, StatusLine}
use Rattle.paper.specs.Configuration.{Lines, Configuration}
use Rattle.rewrite_lines.specs.declared.LineSort.{LineSort}
use Rattle.rewrite_lines.specs.declared.LineSort.TheVariants.{Kept, Numbers, Analog, Status, Word}
use Rattle.rewrite_lines.specs.Lines.{line_text}
use Rattle.rewrite_lines.proofs.LineLaws.{text-line-short}
use Rattle.rewrite_sorts.specs.Sorts.{end_sorts, last_sorts, sorts}
use Rattle.rewrite.specs.Rewrite.{lines_text, rewritten}
use Rattle.exact_rewrite.proofs.LineLaws.{kept-written, channels-written, analog-written, status-written, frequency-written, rates-written, rate-written, kind-written, multiplier-written}
use Rattle.exact_rewrite.proofs.LineLaws.{word-short, kind-long}
use Rattle.exact_rewrite.proofs.EndLaws.{end_text, end_is, end-written, end_stays, end_short}
use Rattle.exact_rewrite.proofs.LinesLaws.{part_then, line_at, next, split, group_lines, rate-group, rate-lines, same, short, lines_are}

-- a configuration, by its parts
module _ (s : List ℕ) (c : Config) (w : Configuration s c) where
  abbrev A : ℕ
  A = c.layout.analogs

  abbrev D : ℕ
  D = c.layout.statuses

  abbrev R : ℕ
  R = max 1 c.rates

  abbrev E : Edition
  E = c.layout.edition

  -- what follows the time multiplier's bytes
  abbrev lasts : (LineSort → List ℕ → List ℕ) → List ℕ
  lasts anew = end_text anew E c.last w.t10 w.last

  rate-parts : Lines (λ j l. Unit {0}) 0 R w.t6
  rate-parts = rw w.rate_count at (rate-lines (rate_sign c.rates) 0 0 w.lasts w.t6 w.rate_lines)

  pub text-is : (anew : LineSort → List ℕ → List ℕ) → lines_text anew (sorts c) s
      ≡ ended (anew Kept w.l1) ++ (ended (anew Numbers w.l2)
      ++ (lines_text anew (replicate A Analog) w.t3 ++ (lines_text anew (replicate D Status) w.t4
      ++ (ended (anew Numbers w.l5) ++ (ended (anew Numbers w.l6) ++ (lines_text anew (replicate R Numbers) w.t6
      ++ (ended (anew Kept w.l7) ++ (ended (anew Kept w.m7) ++ (ended (anew Word w.l8)
      ++ (anew Numbers w.l9 ++ (lasts anew ++ quoted "\r\n")))))))))))
  unfolding sorts
  text-is anew =
      let u9 = w.l9 ++ (w.t10 ++ w.end) in
      let u8 = ended w.l8 ++ u9 in
      let v7 = ended w.m7 ++ u8 in
      let u7 = ended w.l7 ++ v7 in
      let v6 = w.t6 ++ u7 in
      let u6 = ended w.l6 ++ v6 in
      let u5 = ended w.l5 ++ u6 in
      let u4 = w.t4 ++ u5 in
      let u3 = w.t3 ++ u4 in
      let u2 = ended w.l2 ++ u3 in
      let rated = replicate R Numbers ++ last_sorts E in
      let middle = Numbers ∷ Numbers ∷ rated in
      let channels = replicate D Status ++ middle in
      ap (lines_text anew (sorts c)) w.whole
      ∙ part_then (ended (anew Kept w.l1)) (next anew Kept (Numbers ∷ (replicate A Analog ++ channels)) w.l1 u2 w.station)
      (part_then (ended (anew Numbers w.l2)) (next anew Numbers (replicate A Analog ++ channels) w.l2 u3 w.channels)
      (part_then (lines_text anew (replicate A Analog) w.t3) (split anew AnalogLine Analog 1 A w.t3 u4 channels w.analogs)
      (part_then (lines_text anew (replicate D Status) w.t4) (split anew StatusLine Status 1 D w.t4 u5 middle w.statuses)
      (part_then (ended (anew Numbers w.l5)) (next anew Numbers (Numbers ∷ rated) w.l5 u6 w.frequency)
      (part_then (ended (anew Numbers w.l6)) (next anew Numbers rated w.l6 v6 w.rates)
      (part_then (lines_text anew (replicate R Numbers) w.t6) (split anew (λ j l. Unit {0}) Numbers 0 R w.t6 u7 (last_sorts E) rate-parts)
      (part_then (ended (anew Kept w.l7)) (next anew Kept (Kept ∷ Word ∷ Numbers ∷ end_sorts E) w.l7 v7 w.first)
      (part_then (ended (anew Kept w.m7)) (next anew Kept (Word ∷ Numbers ∷ end_sorts E) w.m7 u8 w.trigger)
      (part_then (ended (anew Word w.l8)) (next anew Word (Numbers ∷ end_sorts E) w.l8 u9 w.kind)
      (end_is anew E c.last w.l9 w.t10 w.end w.last w.multiplier w.ends))))))))))

  pub rewritten-configuration : (k : Kind) → has_kind E k ≡ true → length (rewritten c k s) ≤ 65536 → Configuration (rewritten c k s) (with_kind k c)
  unfolding rewritten with_kind
  rewritten-configuration k has h =
      let anew = line_text k in
      record {
        l1 = anew Kept w.l1;
        station = kept-written k w.l1 w.station;
        l2 = anew Numbers w.l2;
        channels = channels-written k A D w.l2 w.channels;
        t3 = lines_text anew (replicate A Analog) w.t3;
        analogs = group_lines anew Analog (analog-written k) 1 A w.t3 w.analogs;
        t4 = lines_text anew (replicate D Status) w.t4;
        statuses = group_lines anew Status (status-written k) 1 D w.t4 w.statuses;
        l5 = anew Numbers w.l5;
        frequency = frequency-written k w.l5 w.frequency;
        l6 = anew Numbers w.l6;
        rates = rates-written k c.rates w.l6 w.rates;
        lasts = w.lasts;
        t6 = lines_text anew (replicate R Numbers) w.t6;
        rate_lines = rw w.rate_count at (rate-group anew Numbers (rate-written k (rate_sign c.rates)) 0 w.lasts w.t6 w.rate_lines);
        rate_count = w.rate_count;
        lasts_shown = w.lasts_shown;
        rows = w.rows;
        l7 = anew Kept w.l7;
        first = kept-written k w.l7 w.first;
        m7 = anew Kept w.m7;
        trigger = kept-written k w.m7 w.trigger;
        pretrigger = w.pretrigger;
        l8 = anew Word w.l8;
        kind = kind-written E k w.l8 has;
        l9 = anew Numbers w.l9;
        multiplier = multiplier-written k w.l9 w.multiplier;
        t10 = lasts anew;
        last = end-written k E c.last w.t10 w.last;
        end = quoted "\r\n";
        ends = inr refl;
        whole = text-is anew;
        small = h;
      }

  -- the configuration's own lines
  abbrev standing : ℕ → List ℕ
  standing i = line_at i s

  stays : lines_text (λ sort l. l) (sorts c) s
      ≡ ended w.l1 ++ (ended w.l2 ++ (w.t3 ++ (w.t4 ++ (ended w.l5 ++ (ended w.l6 ++ (w.t6 ++ (ended w.l7 ++ (ended w.m7 ++ (ended w.l8
      ++ (w.l9 ++ (w.t10 ++ quoted "\r\n")))))))))))
  stays =
      text-is (λ sort l. l)
      ∙ rw (
        same AnalogLine Analog 1 A w.t3 w.analogs,
        same StatusLine Status 1 D w.t4 w.statuses,
        same (λ j l. Unit {0}) Numbers 0 R w.t6 rate-parts,
        end_stays E c.last w.t10 w.last,
      )

  lines-stand : (w.end ≡ []) ⊎ (w.end ≡ quoted "\r\n") → (s ++ quoted "\r\n" ≡ lines_text (λ sort l. l) (sorts c) s) ⊎ (s ≡ lines_text (λ sort l. l) (sorts c) s)
  lines-stand (inl e) = inl (rw (stays, w.whole, e) (simp (append_assoc, append-nil)))
  lines-stand (inr e) = inr (rw stays (rw e at w.whole))

  pub rewritten-lines : (k : Kind) → let m = length (sorts c) in
      (x : ℕ → List ℕ)
      × ((s ++ quoted "\r\n" ≡ cat (λ i. ended (x i)) m) ⊎ (s ≡ cat (λ i. ended (x i)) m))
      × (rewritten c k s ≡ cat (λ i. ended (line_text k (get_or (sorts c) i Kept) (x i))) m)
  unfolding rewritten
  rewritten-lines k = (standing, rw (← lines_are (λ sort l. l) (sorts c) s) (lines-stand w.ends), lines_are (line_text k) (sorts c) s)

  pub rewritten-long : (k : Kind) → length (rewritten c k s) ≤ length s + 5
  unfolding rewritten
  rewritten-long k =
      let anew = line_text k in
      let old = simp length-append at (ap length w.whole) in
      let new = simp length-append at (ap length (text-is anew)) in
      let kept : (l : List ℕ) → length (anew Kept l) ≤ length l = λ l. text-line-short k Kept l (λ e. clash (cc)) in
      let bare : (l : List ℕ) → length (anew Numbers l) ≤ length l = λ l. text-line-short k Numbers l (λ e. clash (cc)) in
      let l8 = kind-long E c.layout.kind w.l8 w.kind.is in
      let k8 = word-short k w.l8 in
      let t3 = short anew AnalogLine Analog (λ l. text-line-short k Analog l (λ e. clash (cc))) 1 A w.t3 w.analogs in
      let t4 = short anew StatusLine Status (λ l. text-line-short k Status l (λ e. clash (cc))) 1 D w.t4 w.statuses in
      let t6 = short anew (λ j l. Unit {0}) Numbers bare 0 R w.t6 rate-parts in
      let t10 = end_short k E c.last w.t10 w.last in
      omega (arith, old, new, l8, k8, t3, t4, t6, t10, kept w.l1, kept w.l7, kept w.m7, bare w.l2, bare w.l5, bare w.l6, bare w.l9)
