-- An answer that is a value, a wrong form (refusal 5) or a value out of range (refusal 6), told by what the field is. Stated once, over the ways to have the form.
--     other-told                              of two things that exclude each other and of which one holds, the first holds exactly when the second does not
--     form-only                               where there are a value and a wrong form alone, no value is given exactly when none has the form
--     Reads                                   what is proved of a reader: each way to have the form is read as its value or as out of range, and there is one or the form is wrong
--     value-told, form-told, range-told       so each answer is given exactly when it is due
--     range_none                              out of range is what has the form and is no value
--     value-alone, form-alone, range-alone    the same where the form says the value itself
-- Assumes nothing.
use Rattle.std.specs.Prelude.{if◌then◌else◌}
use mathlib.Core.Path.{◌≡◌, refl, subst, ◌∙◌}
use mathlib.Core.Logic.{◌↔◌, ◌⊎◌, inl, inr}
use mathlib.Core.Bool.{Bool, true}
use Rattle.ground.proofs.Cases.{on_test, clash}
use Rattle.std.proofs.Common.{Err, None, Ok, Option, Result, Some}
use Rattle.numerals.specs.declared.FieldError.{FieldError}
use Rattle.numerals.specs.declared.FieldError.TheVariants.{Form, Range}

pub other-told : {F P : Type 0} → F ⊎ P → (P → F → ⊥) → F ↔ (P → ⊥)
other-told (inl f) h = (λ e p. h p e, λ n. f)
other-told (inr p) h = (λ e q. h q e, λ n. absurd (n p))

pub form-only : {C : Type 0} (answer : Option C) (P : C → Type 0) → ((c : C) → answer ≡ Some c ↔ P c) → answer ≡ None ↔ ((c : C) → P c → ⊥)
form-only (Some c) P exactly = (λ e. clash (cc), λ n. absurd (n c ((exactly c).0 refl)))
form-only None P exactly = (λ e c p. let q = (exactly c).1 p in clash (cc), λ n. refl)

-- A is the ways to have the form, value what each says, Good those that are in range
pub record Reads {C : Type 0} (answer : Result C FieldError) (A : Type 0) (value : A → C) (Good : A → Type 0) : Type 0 where
  pub test : A → Bool
  pub fair : (a : A) → test a ≡ true ↔ Good a
  pub told : (a : A) → answer ≡ (if test a then Ok (value a) else Err Range)
  pub cases : (answer ≡ Err Form) ⊎ A

module _ {C : Type 0} {answer : Result C FieldError} {A : Type 0} {value : A → C} {Good : A → Type 0} (d : Reads answer A value Good) where
  judged : (a : A) → (Good a × (answer ≡ Ok (value a))) ⊎ ((Good a → ⊥) × (answer ≡ Err Range))
  judged a =
      on_test (d.test a)
      (λ t. inl ((d.fair a).0 t, d.told a ∙ rw t))
      (λ t. inr (λ g. let q = (d.fair a).1 g in clash (cc), d.told a ∙ rw t))

  value-of : (c : C) (a : A) → answer ≡ Ok c → (Good a × (answer ≡ Ok (value a))) ⊎ ((Good a → ⊥) × (answer ≡ Err Range)) → (a : A) × Good a × (value a ≡ c)
  value-of c a e (inl h) = let p = h.1 in (a, h.0, cc)
  value-of c a e (inr h) = let p = h.1 in clash (cc)

  value-to : (c : C) → answer ≡ Ok c → (answer ≡ Err Form) ⊎ A → (a : A) × Good a × (value a ≡ c)
  value-to c e (inl f) = clash (cc)
  value-to c e (inr a) = value-of c a e (judged a)

  value-from : (c : C) → (a : A) × Good a × (value a ≡ c) → answer ≡ Ok c
  value-from c (a, g, q) = let t = (d.fair a).1 g in d.told a ∙ rw (t, q)

  pub value-told : (c : C) → answer ≡ Ok c ↔ ((a : A) × Good a × (value a ≡ c))
  value-told c = (λ e. value-to c e d.cases, value-from c)

  not-form : (a : A) → (Good a × (answer ≡ Ok (value a))) ⊎ ((Good a → ⊥) × (answer ≡ Err Range)) → answer ≡ Err Form → ⊥
  not-form a (inl h) f = let p = h.1 in clash (cc)
  not-form a (inr h) f = let p = h.1 in clash (cc)

  pub form-told : answer ≡ Err Form ↔ (A → ⊥)
  form-told = other-told d.cases (λ a. not-form a (judged a))

  range-of : (a : A) → answer ≡ Err Range → (Good a × (answer ≡ Ok (value a))) ⊎ ((Good a → ⊥) × (answer ≡ Err Range)) → (a : A) × (Good a → ⊥)
  range-of a e (inl h) = let p = h.1 in clash (cc)
  range-of a e (inr h) = (a, h.0)

  range-to : answer ≡ Err Range → (answer ≡ Err Form) ⊎ A → (a : A) × (Good a → ⊥)
  range-to e (inl f) = clash (cc)
  range-to e (inr a) = range-of a e (judged a)

  range-from : (a : A) × (Good a → ⊥) → answer ≡ Err Range
  range-from (a, n) = on_test (d.test a) (λ t. absurd (n ((d.fair a).0 t))) (λ t. d.told a ∙ rw t)

  pub range-told : answer ≡ Err Range ↔ ((a : A) × (Good a → ⊥))
  range-told = (λ e. range-to e d.cases, range-from)

  range-or : (P : C → Type 0) → ((c : C) → answer ≡ Ok c ↔ P c) → (a : A) → ((c : C) → P c → ⊥) → (Good a × (answer ≡ Ok (value a))) ⊎ ((Good a → ⊥) × (answer ≡ Err Range)) → answer ≡ Err Range
  range-or P exactly a n (inl h) = absurd (n (value a) ((exactly (value a)).0 h.1))
  range-or P exactly a n (inr h) = h.1

  pub range_none : (P : C → Type 0) → ((c : C) → answer ≡ Ok c ↔ P c) → answer ≡ Err Range ↔ (A × ((c : C) → P c → ⊥))
  range_none P exactly = (
    λ e. ((range-to e d.cases).0, λ c p. let q = (exactly c).1 p in clash (cc)),
    λ h. range-or P exactly h.0 h.1 (judged h.0),
  )

module _ {C : Type 0} {answer : Result C FieldError} (F G : C → Type 0) (d : Reads answer ((c : C) × F c) (λ a. a.0) (λ a. G a.0)) where
  pub value-alone : (c : C) → answer ≡ Ok c ↔ (F c × G c)
  value-alone c =
      let w = value-told d c in (
        λ e. let (a, g, q) = w.0 e in subst (λ (x : C). F x × G x) q (a.1, g),
        λ h. w.1 ((c, h.0), h.1, refl),
      )

  pub form-alone : answer ≡ Err Form ↔ ((c : C) → F c → ⊥)
  form-alone = let w = form-told d in (λ e c f. w.0 e (c, f), λ n. w.1 (λ a. n a.0 a.1))

  pub range-alone : answer ≡ Err Range ↔ ((c : C) × F c × (G c → ⊥))
  range-alone = let w = range-told d in (λ e. let (a, n) = w.0 e in (a.0, a.1, n), λ h. w.1 ((h.0, h.1), h.2))
