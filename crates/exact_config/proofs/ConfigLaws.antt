-- The readers of a configuration, exactly: what each takes from the bytes, and what it says of them.
--     ReadsLines                         a reader says a of the bytes s and leaves u exactly where R a s u
--     reads_as                      the same in other words
--     said-parts, in-line-told      what is said, and the place after it
--     done-reads, asking_reads      what takes nothing
--     bind-reads                    one reader after another
--     line_reads, last-reads        a line by its rule; the last line, which may end with the file
--     times-reads, lasts-reads      so many lines; the lines of rates
-- Assumes nothing.
use mathlib.Core.Path.{◌≡◌, refl, sym, ap, ◌∙◌}
use mathlib.Core.Logic.{◌↔◌, ◌⊎◌, inl, inr}
use mathlib.Core.Bool.{Bool, true, false}
use mathlib.Core.List.{List, [], ◌∷◌, ◌++◌, append_assoc, append-nil}
use Prim.Native.Nat.{ℕ, zero, suc, ◌+◌, ◌≤◌}
use native.Mathlib.Omega.{arith}
use borrow.Author.Tests.{ne_eqb}
use lib.Dec.{eqb}
use lib.ListN.{length, take, drop, length-append}
use lib.Seq.{take-append_seam, drop-append-add, take-length, drop-length}
use Rattle.ground.specs.Said.{Said, says, refuses}
use Rattle.ground.specs.Quoted.{quoted}
use Rattle.ground.proofs.Cases.{on_test, clash}
use Rattle.ground.proofs.SaidLaws.{bind-told}
use Rattle.std.proofs.Common.{Err, Ok, Result}
use Rattle.text.specs.declared.Line as text
use Rattle.text.specs.declared.LineError.{LineError}
use Rattle.text.specs.declared.LineError.TheVariants.{Bad, Ends}
use Rattle.text.specs.Lines.{line_from, scan_line, or_all, scan_last_line, line_bytes}
use Rattle.text.proofs.LineLaws.{line-found, last-line-found, line-ended, bytes-passed, line-scanned}
use Rattle.line_fields.specs.declared.Fault.{Fault}
use Rattle.config_lines.specs.Lines.{rate_line}
use Rattle.model.specs.declared.Refusal.{Refusal}
use Rattle.config.specs.Reading.{Place, Reader, in_line, scanned, done, asking, line, last_line, times}
use Rattle.config.specs.Reading as paper
use Rattle.config.specs.Config.{last_rows}
use Rattle.paper.specs.Lines.{Line, ended, rate_sign, RateLine}
use Rattle.paper.specs.Configuration.{Lines, RateLines}
use Rattle.exact_config.proofs.LineLaws.{rate-line-exactly}

-- what is read: a value, the bytes, and those that are left
abbrev pub Told : Type 0 → Type 1
Told A = A → List ℕ → List ℕ → Type 0

pub record ReadsLines {A : Type 0} (r : Reader A) (R : Told A) : Type 0 where
  pub exactly : (n : ℕ) (s : List ℕ) (a : A) (u : List ℕ) → ((k : ℕ) × (r (n, s) ≡ says (a, (k, u)))) ↔ R a s u

pub reads_as : {A : Type 0} {r : Reader A} {R S : Told A} → ReadsLines r R → ((a : A) (s u : List ℕ) → R a s u ↔ S a s u) → ReadsLines r S
reads_as h same =
    record { exactly = λ n s a u. (λ e. (same a s u).0 ((h.exactly n s a u).0 e), λ g. (h.exactly n s a u).1 ((same a s u).1 g)) }

-- what was said, and where
pub said-parts : {A : Type 0} (a b : A) (p q : Place) → ◌≡◌ {A = Said Refusal (A × Place)} (says (a, p)) (says (b, q)) → (a ≡ b) × (p ≡ q)
said-parts {A} a b p q e =
    let w : ◌≡◌ {A = A × Place} (a, p) (b, q) = cc in
    (ap (λ (z : A × Place). z.0) w, ap (λ (z : A × Place). z.1) w)

pub done-reads : {A : Type 0} (c : A) → ReadsLines (done c) (λ a s u. (c ≡ a) × (s ≡ u))
done-reads c =
    record {
      exactly = λ n s a u. (
        λ (k, e). let (q, p) = said-parts c a (n, s) (k, u) e in (q, ap (λ (z : Place). z.1) p),
        λ (q, p). (n, rw (q, p)),
      );
    }

pub bind-reads : {A B : Type 0} {r : Reader A} {R : Told A} {next : A → Reader B} {S : A → Told B} → ReadsLines r R → ((a : A) → ReadsLines (next a) (S a))
    → ReadsLines (paper.◌>>=◌ r next) (λ b s u. (a : A) × (t : List ℕ) × R a s t × S a b t u)
bind-reads {A} {B} {r} {R} {next} {S} h g =
    record {
      exactly = λ n s b u. (
        λ (k, e). let ((a, (j, t)), f, x) = bind-told (r (n, s)) (λ q. next q.0 q.1) (b, (k, u)) e in (a, t, (h.exactly n s a t).0 (j, f), ((g a).exactly j t b u).0 (k, x)),
        λ (a, t, x, y).
            let (j, f) = (h.exactly n s a t).1 x in
            let (k, e) = ((g a).exactly j t b u).1 y in
            (k, rw f e),
      );
    }

pub asking_reads : (test : List ℕ → Bool) (refusal : ℕ → Refusal) → ReadsLines (λ p. asking (test p.1) (refusal p.0) p) (λ x s u. (test s ≡ true) × (s ≡ u))
asking_reads test refusal =
    record {
      exactly = λ n s x u. (
        λ (k, e). told n s k u (test s) (refusal n) x e,
        λ (q, p). (n, rw (q, p)),
      );
    }
  where
    told : (n : ℕ) (s : List ℕ) (k : ℕ) (u : List ℕ) (t : Bool) (r : Refusal) (x : Unit {0}) → asking t r (n, s) ≡ says (x, (k, u)) → (t ≡ true) × (s ≡ u)
    told n s k u true r x e = (refl, ap (λ (z : Place). z.1) (said-parts tt x (n, s) (k, u) e).1)
    told n s k u false r x e = clash (cc)

-- what stands after the last line
abbrev pub LastEnd : List ℕ → List ℕ → Type 0
LastEnd e u = (e ≡ quoted "\r\n") ⊎ ((e ≡ []) × (u ≡ []))

-- the last line, as it is scanned
or-all : (m : ℕ) (r : Result text.Line LineError) (n t : ℕ) → or_all m r ≡ Ok (record { len = n; taken = t }) → (r ≡ Ok (record { len = n; taken = t })) ⊎ ((n ≡ m) × (t ≡ m))
or-all m (Ok one) n t e = inl e
or-all m (Err Ends) n t e =
    let w : ◌≡◌ {A = text.Line} (record { len = n; taken = t }) (record { len = m; taken = m }) = cc in
    inr (ap (λ (x : text.Line). x.len) w, ap (λ (x : text.Line). x.taken) w)
or-all m (Err Bad) n t e = clash (cc)

last-cases : (s : List ℕ) (m t : ℕ) → scan_last_line (length s) s ≡ Ok (record { len = m; taken = t }) → (scan_line (length s) s ≡ Ok (record { len = m; taken = t })) ⊎ ((m ≡ length s) × (t ≡ length s))
unfolding scan_last_line
last-cases s m t e =
    on_test (eqb (length s) 0)
    (λ q. let x : Err Ends ≡ Ok (record { len = m; taken = t }) = rw q at e in clash (cc))
    (λ q. or-all (length s) (scan_line (length s) s) m t (rw q at e))

last-parts : (s : List ℕ) (m t : ℕ) (u : List ℕ) → (scan_line (length s) s ≡ Ok (record { len = m; taken = t })) ⊎ ((m ≡ length s) × (t ≡ length s)) → drop t s ≡ u
    → (e : List ℕ) × (s ≡ take m s ++ (e ++ u)) × LastEnd e u
last-parts s m t u (inl f) q = (13 ∷ 10 ∷ [], sym (line-ended (length s) m t s f) ∙ ap (λ (z : List ℕ). take m s ++ 13 ∷ 10 ∷ z) q, inl refl)
last-parts s m t u (inr f) q =
    let z : u ≡ [] = sym q ∙ ap (λ (k : ℕ). drop k s) f.1 ∙ drop-length s in
    let w : take m s ≡ s = ap (λ (k : ℕ). take k s) f.0 ∙ take-length s in
    ([], sym (append-nil s) ∙ ap (λ (x : List ℕ). x ++ []) (sym w) ∙ ap (◌++◌ (take m s)) (sym z), inr (refl, z))

bytes-end : (x : List ℕ) → line_bytes x ≡ true → scan_line (length x) x ≡ Err Ends
unfolding scan_line
bytes-end x h = ap (line_from (length x) 0) (sym (append-nil x)) ∙ bytes-passed (length x) 0 x [] h (omega arith)

last-scanned : (l e u : List ℕ) → line_bytes l ≡ true → 1 ≤ length l → LastEnd e u
    → (t : ℕ) × (scan_last_line (length (l ++ (e ++ u))) (l ++ (e ++ u)) ≡ Ok (record { len = length l; taken = t })) × (drop t (l ++ (e ++ u)) ≡ u)
unfolding scan_last_line
last-scanned l e u h k (inl q) =
    let s = l ++ 13 ∷ 10 ∷ u in
    let n : length s ≡ length l + suc (suc (length u)) = length-append l (13 ∷ 10 ∷ u) in
    let m : length l ≤ length s = omega arith in
    (length l + 2, rw (q, ne_eqb (length s) 0 (λ z. omega arith), line-scanned (length s) l u h m), rw q (drop-append-add l (13 ∷ 10 ∷ u) 2))
last-scanned l e u h k (inr (q, z)) =
    (length l, rw (q, z, append-nil, ne_eqb (length l) 0 (λ z. omega arith), bytes-end l h), rw (q, z, append-nil) (drop-length l))

pub in-line-told : {A : Type 0} (n : ℕ) (p q : Place) (a : A) (x : Said Fault A) → in_line n p x ≡ says (a, q) → (x ≡ says a) × (p ≡ q)
in-line-told n p q a (says b) e = let (v, w) = said-parts b a p q e in (ap says v, w)
in-line-told n p q a (refuses f) e = clash (cc)

-- a line of which a rule says a exactly where it is P a
module _ {A : Type 0} (rule : List ℕ → Said Fault A) (P : A → List ℕ → Type 0) (exactly : (a : A) (l : List ℕ) → rule l ≡ says a ↔ P a l) where
  scanned-told : (n : ℕ) (s : List ℕ) (a : A) (k : ℕ) (u : List ℕ) (f : Result text.Line LineError) → scanned rule (n, s) f ≡ says (a, (k, u))
      → (m : ℕ) × (t : ℕ) × (f ≡ Ok (record { len = m; taken = t })) × P a (take m s) × (drop t s ≡ u)
  scanned-told n s a k u (Ok one) e =
      let (h, q) = in-line-told n (n + 1, drop one.taken s) (k, u) a (rule (take one.len s)) e in
      (one.len, one.taken, refl, (exactly a (take one.len s)).0 h, ap (λ (z : Place). z.1) q)
  scanned-told n s a k u (Err Ends) e = clash (cc)
  scanned-told n s a k u (Err Bad) e = clash (cc)

  scanned-says : (n : ℕ) (s : List ℕ) (a : A) (l u : List ℕ) (t : ℕ) (f : Result text.Line LineError) → f ≡ Ok (record { len = length l; taken = t }) → take (length l) s ≡ l → drop t s ≡ u → P a l
      → scanned rule (n, s) f ≡ says (a, (n + 1, u))
  scanned-says n s a l u t f e q r p = rw (e, q, r, (exactly a l).1 p)

  pub line_reads : ReadsLines (line rule) (λ a s u. (l : List ℕ) × (s ≡ ended l ++ u) × Line (P a) l)
  line_reads =
      record {
        exactly = λ n s a u. (
          λ (k, e).
              let (m, t, f, h, q) = scanned-told n s a k u (scan_line (length s) s) e in
              let w = line-ended (length s) m t s f in (
                take m s,
                sym w ∙ ap (λ (z : List ℕ). take m s ++ 13 ∷ 10 ∷ z) q ∙ sym (append_assoc (take m s) (13 ∷ 10 ∷ []) u),
                record { bytes = (line-found (length s) m t s f).1.bytes; is = h },
              ),
          λ (l, q, g). (n + 1, ap (λ (z : List ℕ). line rule (n, z)) (q ∙ append_assoc l (13 ∷ 10 ∷ []) u) ∙ read n a l u g),
        );
      }
    where
      read : (n : ℕ) (a : A) (l u : List ℕ) → Line (P a) l → line rule (n, l ++ 13 ∷ 10 ∷ u) ≡ says (a, (n + 1, u))
      read n a l u g =
          let s = l ++ 13 ∷ 10 ∷ u in
          let m : length l ≤ length s = rw length-append (omega arith) in
          scanned-says n s a l u (length l + 2) (scan_line (length s) s) (line-scanned (length s) l u g.bytes m) (take-append_seam l (13 ∷ 10 ∷ u)) (drop-append-add l (13 ∷ 10 ∷ u) 2) g.is

  pub last-reads : ((a : A) (l : List ℕ) → P a l → 1 ≤ length l)
      → ReadsLines (last_line rule) (λ a s u. (l : List ℕ) × (e : List ℕ) × (s ≡ l ++ (e ++ u)) × Line (P a) l × LastEnd e u)
  last-reads some =
      record {
        exactly = λ n s a u. (
          λ (k, e).
              let (m, t, f, h, q) = scanned-told n s a k u (scan_last_line (length s) s) e in
              let (end, w, z) = last-parts s m t u (last-cases s m t f) q in
              (take m s, end, w, record { bytes = (last-line-found (length s) m t s f).bytes; is = h }, z),
          λ (l, e, q, g, z). (n + 1, ap (λ (x : List ℕ). last_line rule (n, x)) q ∙ read n a l e u g z),
        );
      }
    where
      read : (n : ℕ) (a : A) (l e u : List ℕ) → Line (P a) l → LastEnd e u → last_line rule (n, l ++ (e ++ u)) ≡ says (a, (n + 1, u))
      read n a l e u g z =
          let s = l ++ (e ++ u) in
          let (t, f, d) = last-scanned l e u g.bytes (some a l g.is) z in
          scanned-says n s a l u t (scan_last_line (length s) s) f (take-append_seam l (e ++ u)) d g.is

-- so many lines that say nothing
pub times-reads : (rule : ℕ → List ℕ → Said Fault (Unit {0})) (P : ℕ → List ℕ → Type 0) → ((i : ℕ) (l : List ℕ) → rule i l ≡ says tt ↔ P i l) → (m i : ℕ)
    → ReadsLines (times m i (λ i. line (rule i))) (λ x s u. (t : List ℕ) × (s ≡ t ++ u) × Lines P i m t)
times-reads rule P exactly zero i = reads_as (done-reads tt) (λ x s u. (λ (q, e). ([], e, refl), λ (t, q, e). (refl, q ∙ rw e)))
times-reads rule P exactly (suc m) i =
    reads_as
    (bind-reads (line_reads (rule i) (λ x. P i) (λ x. exactly i)) (λ x. times-reads rule P exactly m (i + 1)))
    (λ x s u. (
      λ (y, v, (l, q, g), (t, e, h)). (ended l ++ t, q ∙ ap (◌++◌ (ended l)) e ∙ sym (append_assoc (ended l) t u), (l, t, refl, g, h)),
      λ (t, q, (l, w, e, g, h)). (tt, w ++ u, (l, q ∙ ap (λ (z : List ℕ). z ++ u) e ∙ append_assoc (ended l) w u, g), (w, refl, h)),
    ))

-- a rate's line and those after it
abbrev RateThen : ℕ → ℕ → ℕ → Told (List ℕ)
RateThen n m before lasts s u =
    (last : ℕ) × (v : List ℕ) × ((l : List ℕ) × (s ≡ ended l ++ v) × Line (RateLine (rate_sign n) before last) l)
    × ((others : List ℕ) × (w : List ℕ) × ((t : List ℕ) × (v ≡ t ++ w) × (length others ≡ m) × RateLines (rate_sign n) last others t) × ((last ∷ others ≡ lasts) × (w ≡ u)))

rates-none : (n before : ℕ) (lasts t u s : List ℕ) → s ≡ t ++ u → length lasts ≡ 0 → RateLines (rate_sign n) before lasts t → ([] ≡ lasts) × (s ≡ u)
rates-none n before [] t u s q k h = (refl, q ∙ rw h)
rates-none n before (r ∷ rs) t u s q k h = absurd (omega arith)

rates-some : (n m before : ℕ) (lasts t u s : List ℕ) → s ≡ t ++ u → length lasts ≡ suc m → RateLines (rate_sign n) before lasts t → RateThen n m before lasts s u
rates-some n m before [] t u s q k h = absurd (omega arith)
rates-some n m before (last ∷ others) t u s q k (l, w, e, g, h) =
    (last, w ++ u, (l, q ∙ ap (λ (z : List ℕ). z ++ u) e ∙ append_assoc (ended l) w u, g), (others, u, (w, refl, omega arith, h), (refl, refl)))

-- the lines of n rates
pub lasts-reads : (n m before : ℕ) → ReadsLines (last_rows (eqb n 0) m before) (λ lasts s u. (t : List ℕ) × (s ≡ t ++ u) × (length lasts ≡ m) × RateLines (rate_sign n) before lasts t)
lasts-reads n zero before = reads_as (done-reads []) (λ lasts s u. (λ (q, e). ([], e, rw (← q), rw (← q)), λ (t, q, k, h). rates-none n before lasts t u s q k h))
lasts-reads n (suc m) before =
    reads_as
    (bind-reads (line_reads (rate_line (eqb n 0) before) (RateLine (rate_sign n) before) (rate-line-exactly n before)) (λ last.
    bind-reads (lasts-reads n m last) (λ others. done-reads (last ∷ others))))
    (λ lasts s u. (
      λ (last, v, (l, q, g), (others, w, (t, e, k, h), (z, y))).
          (ended l ++ t, q ∙ ap (◌++◌ (ended l)) (e ∙ ap (◌++◌ t) y) ∙ sym (append_assoc (ended l) t u), rw (← z) (ap suc k), rw (← z) (l, t, refl, g, h)),
      λ (t, q, k, h). rates-some n m before lasts t u s q k h,
    ))
