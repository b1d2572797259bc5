-- Fields of one character, exactly.
--     among-each, among-digits, each-digits            a character of those allowed is one of them; the digits from 0 on
--     digit_low, digit-capital, digit-small            what a hexadecimal digit is worth
--     one-character, digit-character                   what is read of one character, and that there is no other form
--     quality-exactly, quality-form, quality-range     time quality
--     leap-exactly, leap-form, leap-range              leap second code
--     side-exactly, side-form, side-range              p P s S
--     state-exactly, state-form, state-range           normal state, 0 or 1
-- Assumes nothing.
use Rattle.std.specs.Prelude.{if◌then◌else◌}
use mathlib.Core.Path.{◌≡◌, refl, sym, ap, subst, ◌∙◌}
use mathlib.Core.Logic.{◌↔◌, ◌⊎◌, inl, inr, ⊎_elim}
use mathlib.Core.Bool.{true}
use mathlib.Core.List.{List, [], ◌∷◌, ◌++◌}
use Prim.Native.Nat.{ℕ, zero, suc, ◌+◌, ◌≤◌, ◌<◌}
use native.Mathlib.Omega.{arith}
use borrow.Author.Tests.{eq-eqb, eqb-true, eqb-false, le-ltb, lt-ltb}
use lib.Dec.{eqb}
use lib.ListN.{length, get_or}
use Rattle.ground.specs.Quoted.{quoted}
use Rattle.ground.specs.Tables.{tab}
use Rattle.ground.proofs.Cases.{on_test, clash}
use Rattle.ground.proofs.Walk.{first, done}
use Rattle.std.proofs.Common.{Err, Ok, Result}
use Rattle.numerals.specs.declared.FieldError.{FieldError}
use Rattle.numerals.specs.declared.FieldError.TheVariants.{Form, Range}
use Rattle.fields.specs.Fields.{is_among, read_one_of, digit_value, read_digit_of, read_state, read_side, read_quality, read_leap}
use Rattle.paper.specs.Fields.{HexDigit, QualityField, LeapField}
use Rattle.exact.proofs.AnswerLaws.{Reads, value-told, form-told, range_none}

-- one character is the first and nothing after it
one-alone : (l : List ℕ) → length l ≡ 1 → l ≡ get_or l 0 0 ∷ []
one-alone l h = first l (omega arith) ∙ ap (λ (t : List ℕ). get_or l 0 0 ∷ t) (done l 1 (omega arith))

-- one character
abbrev One : List ℕ → Type 0
One f = (b : ℕ) × (f ≡ b ∷ [])

-- what is proved of a reader of one character of those allowed, each worth so much
abbrev Character : List ℕ → (ℕ → ℕ) → List ℕ → Result ℕ FieldError → Type 0
Character allowed worth f answer = Reads answer (One f) (λ a. worth a.0) (λ a. is_among a.0 allowed ≡ true)

one-said : (allowed : List ℕ) (b : ℕ) (f : List ℕ) → f ≡ b ∷ [] → read_one_of allowed f ≡ (if is_among b allowed then Ok b else Err Range)
unfolding read_one_of
one-said allowed b f e = rw e

one-cases : (allowed f : List ℕ) → (read_one_of allowed f ≡ Err Form) ⊎ One f
unfolding read_one_of
one-cases allowed f = on_test (eqb (length f) 1) (λ t. inr (get_or f 0 0, one-alone f (eqb-true (length f) 1 t))) (λ t. inl (rw t))

one-character : (allowed f : List ℕ) → Character allowed (λ b. b) f (read_one_of allowed f)
one-character allowed f = record {
  test = λ a. is_among a.0 allowed;
  fair = λ a. (λ e. e, λ e. e);
  told = λ a. one-said allowed a.0 f a.1;
  cases = one-cases allowed f;
}

digit-said : (allowed : List ℕ) (b : ℕ) (f : List ℕ) → f ≡ b ∷ [] → read_digit_of allowed f ≡ (if is_among b allowed then Ok (digit_value b) else Err Range)
unfolding read_digit_of
digit-said allowed b f e = rw (one-said allowed b f e) (on_test (is_among b allowed) (λ t. rw t) (λ t. rw t))

digit-cases : (allowed f : List ℕ) → (read_digit_of allowed f ≡ Err Form) ⊎ One f
unfolding read_digit_of
digit-cases allowed f = ⊎_elim (λ e. inl (rw e)) inr (one-cases allowed f)

digit-character : (allowed f : List ℕ) → Character allowed digit_value f (read_digit_of allowed f)
digit-character allowed f = record {
  test = λ a. is_among a.0 allowed;
  fair = λ a. (λ e. e, λ e. e);
  told = λ a. digit-said allowed a.0 f a.1;
  cases = digit-cases allowed f;
}

-- a property of each of the characters
abbrev Each : (ℕ → Type 0) → List ℕ → Type 0
Each P [] = Unit {0}
Each P (a ∷ l) = P a × Each P l

among-each : (P : ℕ → Type 0) (b : ℕ) (l : List ℕ) → Each P l → is_among b l ≡ true → P b
among-each P b [] h e = clash (cc)
among-each P b (a ∷ l) h e = on_test (eqb a b) (λ t. subst P (eqb-true a b t) h.0) (λ t. among-each P b l h.1 (rw t at e))

among-more : (b : ℕ) (l m : List ℕ) → is_among b l ≡ true → is_among b (l ++ m) ≡ true
among-more b [] m h = clash (cc)
among-more b (a ∷ l) m h = on_test (eqb a b) (λ t. rw t) (λ t. rw t (among-more b l m (rw t at h)))

among-last : (b : ℕ) (l : List ℕ) → is_among b (l ++ b ∷ []) ≡ true
among-last b [] = rw (eq-eqb b b refl)
among-last b (a ∷ l) = on_test (eqb a b) (λ t. rw t) (λ t. rw t (among-last b l))

-- the digits from 0 on
abbrev digits_to : ℕ → List ℕ
digits_to n = tab (λ i. 48 + i) n

among-digits : (n v : ℕ) → v < n → is_among (48 + v) (digits_to n) ≡ true
among-digits zero v h = absurd (omega arith)
among-digits (suc n) v h =
    on_test (eqb v n)
    (λ t. let e : v ≡ n = eqb-true v n t in rw e (among-last (48 + n) (digits_to n)))
    (λ t. among-more (48 + v) (digits_to n) ((48 + n) ∷ []) (among-digits n v (omega (arith, eqb-false v n t))))

each_append : (P : ℕ → Type 0) (l m : List ℕ) → Each P l → Each P m → Each P (l ++ m)
each_append P [] m h k = k
each_append P (a ∷ l) m h k = (h.0, each_append P l m h.1 k)

each-digits : (P : ℕ → Type 0) (n : ℕ) → ((v : ℕ) → v < n → P (48 + v)) → Each P (digits_to n)
each-digits P zero h = tt
each-digits P (suc n) h = each_append P (digits_to n) ((48 + n) ∷ []) (each-digits P n (λ v k. h v (omega arith))) (h n (omega arith), tt)

digit_low : (v : ℕ) → v ≤ 9 → digit_value (48 + v) ≡ v
unfolding digit_value
digit_low v h = rw (lt-ltb (48 + v) 58 (omega arith)) (omega arith)

digit-capital : (v : ℕ) → 10 ≤ v → v ≤ 15 → digit_value (55 + v) ≡ v
unfolding digit_value
digit-capital v h k = rw (le-ltb (55 + v) 58 (omega arith), lt-ltb (55 + v) 71 (omega arith)) (omega arith)

digit-small : (v : ℕ) → 10 ≤ v → v ≤ 15 → digit_value (87 + v) ≡ v
unfolding digit_value
digit-small v h k = rw (le-ltb (87 + v) 58 (omega arith), le-ltb (87 + v) 71 (omega arith)) (omega arith)

module _ (allowed : List ℕ) (worth : ℕ → ℕ) (f : List ℕ) (answer : Result ℕ FieldError) (d : Character allowed worth f answer) where
  one_told : (v : ℕ) → answer ≡ Ok v ↔ ((a : One f) × (is_among a.0 allowed ≡ true) × (worth a.0 ≡ v))
  one_told v = value-told d v

  one_form : answer ≡ Err Form ↔ ((b : ℕ) → f ≡ b ∷ [] → ⊥)
  one_form =
      let w = form-told d in
      (λ e b t. w.0 e (b, t), λ n. w.1 (λ a. n a.0 a.1))

  one-range : (P : ℕ → Type 0) → ((v : ℕ) → answer ≡ Ok v ↔ P v) → answer ≡ Err Range ↔ ((b : ℕ) × (f ≡ b ∷ []) × ((v : ℕ) → P v → ⊥))
  one-range P exactly =
      let w = range_none d P exactly in
      (λ e. let (a, n) = w.0 e in (a.0, a.1, n), λ h. w.1 ((h.0, h.1), h.2))

  -- where it does not matter which of the characters it is
  any_told : (P : List ℕ → Type 0) → Each (λ b. P (b ∷ [])) allowed → (P f → (b : ℕ) × (f ≡ b ∷ []) × (is_among b allowed ≡ true)) → ((v : ℕ) × (answer ≡ Ok v)) ↔ P f
  any_told P each known = (
    λ (v, e). let (a, m, s) = (one_told v).0 e in subst P (sym a.1) (among-each (λ b. P (b ∷ [])) a.0 allowed each m),
    λ p. let (b, t, m) = known p in (worth b, (one_told (worth b)).1 ((b, t), m, refl)),
  )

  any-range : (P : Type 0) → ((v : ℕ) × (answer ≡ Ok v)) ↔ P → answer ≡ Err Range ↔ ((b : ℕ) × (f ≡ b ∷ []) × (P → ⊥))
  any-range P exactly =
      let w = one-range (λ v. answer ≡ Ok v) (λ v. (λ e. e, λ e. e)) in (
        λ e. let (b, t, n) = w.0 e in (b, t, λ p. let (v, q) = exactly.1 p in n v q),
        λ (b, t, n). w.1 (b, t, λ v q. n (exactly.0 (v, q))),
      )

-- what is known of a digit that time quality may be
Known : ℕ → Type 0
Known b = HexDigit (digit_value b) b × ((digit_value b ≤ 9) ⊎ ((digit_value b ≡ 10) ⊎ ((digit_value b ≡ 11) ⊎ (digit_value b ≡ 15))))

known-low : (v : ℕ) → v ≤ 9 → Known (48 + v)
unfolding Known
known-low v h = rw (digit_low v h) (inl (refl, h), inl h)

-- a letter is one of three, a capital one or a small one
known-letter : (v : ℕ) → 10 ≤ v → v ≤ 15 → (v ≡ 10) ⊎ ((v ≡ 11) ⊎ (v ≡ 15)) → Known (55 + v) × Known (87 + v)
unfolding Known
known-letter v h k o = (rw (digit-capital v h k) (inr (inl refl, h, k), inr o), rw (digit-small v h k) (inr (inr refl, h, k), inr o))

known-each : Each Known (quoted "0123456789ABFabf")
known-each =
    let a = known-letter 10 (omega arith) (omega arith) (inl refl) in
    let b = known-letter 11 (omega arith) (omega arith) (inr (inl refl)) in
    let f = known-letter 15 (omega arith) (omega arith) (inr (inr refl)) in
    each_append Known (digits_to 10) (quoted "ABFabf") (each-digits Known 10 (λ v h. known-low v (omega arith))) (a.0, (b.0, (f.0, (a.1, (b.1, (f.1, tt))))))

-- a hexadecimal digit is worth what it says
hex-worth : (v b : ℕ) → HexDigit v b → digit_value b ≡ v
hex-worth v b (inl (e, h)) = rw e (digit_low v h)
hex-worth v b (inr (inl e, h, k)) = rw e (digit-capital v h k)
hex-worth v b (inr (inr e, h, k)) = rw e (digit-small v h k)

letter-among : (v b : ℕ) → (b ≡ 55 + v) ⊎ (b ≡ 87 + v) → (v ≡ 10) ⊎ ((v ≡ 11) ⊎ (v ≡ 15)) → is_among b (quoted "0123456789ABFabf") ≡ true
letter-among v b (inl e) (inl o) = rw (e, o)
letter-among v b (inl e) (inr (inl o)) = rw (e, o)
letter-among v b (inl e) (inr (inr o)) = rw (e, o)
letter-among v b (inr e) (inl o) = rw (e, o)
letter-among v b (inr e) (inr (inl o)) = rw (e, o)
letter-among v b (inr e) (inr (inr o)) = rw (e, o)

quality-among : (v b : ℕ) → HexDigit v b → (v ≤ 9) ⊎ ((v ≡ 10) ⊎ ((v ≡ 11) ⊎ (v ≡ 15))) → is_among b (quoted "0123456789ABFabf") ≡ true
quality-among v b (inl (e, h)) o = rw e (among-more (48 + v) (digits_to 10) (quoted "ABFabf") (among-digits 10 v (omega arith)))
quality-among v b (inr (e, h, k)) (inl o) = absurd (omega arith)
quality-among v b (inr (e, h, k)) (inr o) = letter-among v b e o

module _ (f : List ℕ) where
  quality-character : Character (quoted "0123456789ABFabf") digit_value f (read_quality f)
  unfolding read_quality
  quality-character = digit-character (quoted "0123456789ABFabf") f

  quality-to : (q b : ℕ) → f ≡ b ∷ [] → Known b → digit_value b ≡ q → QualityField q f
  unfolding Known
  quality-to q b e (h, o) s = record { digit = b; text = e; worth = rw (← s) h; known = rw (← s) o }

  pub quality-exactly : (q : ℕ) → read_quality f ≡ Ok q ↔ QualityField q f
  quality-exactly q =
      let w = one_told (quoted "0123456789ABFabf") digit_value f (read_quality f) quality-character q in (
        λ e. let (a, m, s) = w.0 e in quality-to q a.0 a.1 (among-each Known a.0 (quoted "0123456789ABFabf") known-each m) s,
        λ x. w.1 ((x.digit, x.text), quality-among q x.digit x.worth x.known, hex-worth q x.digit x.worth),
      )

  pub quality-form : read_quality f ≡ Err Form ↔ ((b : ℕ) → f ≡ b ∷ [] → ⊥)
  quality-form = one_form (quoted "0123456789ABFabf") digit_value f (read_quality f) quality-character

  pub quality-range : read_quality f ≡ Err Range ↔ ((b : ℕ) × (f ≡ b ∷ []) × ((q : ℕ) → QualityField q f → ⊥))
  quality-range = one-range (quoted "0123456789ABFabf") digit_value f (read_quality f) quality-character (λ q. QualityField q f) quality-exactly

-- a leap second code's digit
Leap : ℕ → Type 0
Leap b = (b ≡ 48 + digit_value b) × (digit_value b ≤ 3)

leap-low : (v : ℕ) → v ≤ 3 → Leap (48 + v)
unfolding Leap
leap-low v h = rw (digit_low v (omega arith)) (refl, h)

leap-each : Each Leap (quoted "0123")
leap-each = each-digits Leap 4 (λ v h. leap-low v (omega arith))

module _ (f : List ℕ) where
  leap-character : Character (quoted "0123") digit_value f (read_leap f)
  unfolding read_leap
  leap-character = digit-character (quoted "0123") f

  leap-to : (p b : ℕ) → f ≡ b ∷ [] → Leap b → digit_value b ≡ p → LeapField p f
  unfolding Leap
  leap-to p b e (h, o) s = record { text = e ∙ ap (λ (c : ℕ). c ∷ []) (h ∙ ap (λ (v : ℕ). 48 + v) s); known = rw (← s) o }

  pub leap-exactly : (p : ℕ) → read_leap f ≡ Ok p ↔ LeapField p f
  leap-exactly p =
      let w = one_told (quoted "0123") digit_value f (read_leap f) leap-character p in (
        λ e. let (a, m, s) = w.0 e in leap-to p a.0 a.1 (among-each Leap a.0 (quoted "0123") leap-each m) s,
        λ x. let k = x.known in w.1 ((48 + p, x.text), among-digits 4 p (omega arith), digit_low p (omega arith)),
      )

  pub leap-form : read_leap f ≡ Err Form ↔ ((b : ℕ) → f ≡ b ∷ [] → ⊥)
  leap-form = one_form (quoted "0123") digit_value f (read_leap f) leap-character

  pub leap-range : read_leap f ≡ Err Range ↔ ((b : ℕ) × (f ≡ b ∷ []) × ((p : ℕ) → LeapField p f → ⊥))
  leap-range = one-range (quoted "0123") digit_value f (read_leap f) leap-character (λ p. LeapField p f) leap-exactly

-- p P s S
abbrev Side : List ℕ → Type 0
Side f = (f ≡ quoted "p") ⊎ ((f ≡ quoted "P") ⊎ ((f ≡ quoted "s") ⊎ (f ≡ quoted "S")))

module _ (f : List ℕ) where
  side-character : Character (quoted "pPsS") (λ b. b) f (read_side f)
  unfolding read_side
  side-character = one-character (quoted "pPsS") f

  side-from : Side f → (b : ℕ) × (f ≡ b ∷ []) × (is_among b (quoted "pPsS") ≡ true)
  side-from (inl e) = (112, e, refl)
  side-from (inr (inl e)) = (80, e, refl)
  side-from (inr (inr (inl e))) = (115, e, refl)
  side-from (inr (inr (inr e))) = (83, e, refl)

  pub side-exactly : ((b : ℕ) × (read_side f ≡ Ok b)) ↔ ((f ≡ quoted "p") ⊎ ((f ≡ quoted "P") ⊎ ((f ≡ quoted "s") ⊎ (f ≡ quoted "S"))))
  side-exactly = any_told (quoted "pPsS") (λ b. b) f (read_side f) side-character Side (inl refl, (inr (inl refl), (inr (inr (inl refl)), (inr (inr (inr refl)), tt)))) side-from

  pub side-form : read_side f ≡ Err Form ↔ ((b : ℕ) → f ≡ b ∷ [] → ⊥)
  side-form = one_form (quoted "pPsS") (λ b. b) f (read_side f) side-character

  pub side-range : read_side f ≡ Err Range ↔ ((b : ℕ) × (f ≡ b ∷ []) × ((f ≡ quoted "p") ⊎ ((f ≡ quoted "P") ⊎ ((f ≡ quoted "s") ⊎ (f ≡ quoted "S"))) → ⊥))
  side-range = any-range (quoted "pPsS") (λ b. b) f (read_side f) side-character (Side f) side-exactly

-- 0 or 1
abbrev State : List ℕ → Type 0
State f = (f ≡ quoted "0") ⊎ (f ≡ quoted "1")

module _ (f : List ℕ) where
  state-character : Character (quoted "01") digit_value f (read_state f)
  unfolding read_state
  state-character = digit-character (quoted "01") f

  state-from : State f → (b : ℕ) × (f ≡ b ∷ []) × (is_among b (quoted "01") ≡ true)
  state-from (inl e) = (48, e, refl)
  state-from (inr e) = (49, e, refl)

  pub state-exactly : ((v : ℕ) × (read_state f ≡ Ok v)) ↔ ((f ≡ quoted "0") ⊎ (f ≡ quoted "1"))
  state-exactly = any_told (quoted "01") digit_value f (read_state f) state-character State (inl refl, (inr refl, tt)) state-from

  pub state-form : read_state f ≡ Err Form ↔ ((b : ℕ) → f ≡ b ∷ [] → ⊥)
  state-form = one_form (quoted "01") digit_value f (read_state f) state-character

  pub state-range : read_state f ≡ Err Range ↔ ((b : ℕ) × (f ≡ b ∷ []) × ((f ≡ quoted "0") ⊎ (f ≡ quoted "1") → ⊥))
  state-range = any-range (quoted "01") digit_value f (read_state f) state-character (State f) state-exactly
