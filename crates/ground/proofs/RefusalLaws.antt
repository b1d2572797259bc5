-- Laws of what a rule may refuse with.
--     RefusesOnly                       each refusal that the rule gives has a property
--     only-must, only_then, only-bind   so of a test, and of one rule after another
--     only_wider                        so of a property that follows from it
--     only-given                        a refusal that was given has it
-- Assumes nothing.
use mathlib.Core.Path.{◌≡◌, refl}
use mathlib.Core.Bool.{Bool, true, false}
use Rattle.ground.specs.Said.{Said, says, refuses, ◌>>=◌, ◌>>◌, must}

-- where the rule refuses, P holds of the refusal
abbrev pub RefusesOnly : {R A : Type 0} → (R → Type 0) → Said R A → Type 0
RefusesOnly P (says a) = Unit {0}
RefusesOnly P (refuses r) = P r

module _ {R : Type 0} (P : R → Type 0) where
  pub only-must : (t : Bool) (r : R) → (t ≡ false → P r) → RefusesOnly P (must t r)
  only-must true r p = tt
  only-must false r p = p refl

  pub only_then : {B : Type 0} (x : Said R (Unit {0})) (y : Said R B) → RefusesOnly P x → (x ≡ says tt → RefusesOnly P y) → RefusesOnly P (x >> y)
  only_then (says tt) y p q = q refl
  only_then (refuses r) y p q = p

  pub only-bind : {A B : Type 0} (x : Said R A) (f : A → Said R B) → RefusesOnly P x → ((a : A) → x ≡ says a → RefusesOnly P (f a)) → RefusesOnly P (x >>= f)
  only-bind (says a) f p q = q a refl
  only-bind (refuses r) f p q = p

  pub only_wider : {A : Type 0} (Q : R → Type 0) (x : Said R A) → ((r : R) → P r → Q r) → RefusesOnly P x → RefusesOnly Q x
  only_wider Q (says a) w p = tt
  only_wider Q (refuses r) w p = w r p

  pub only-given : {A : Type 0} (x : Said R A) (r : R) → x ≡ refuses r → RefusesOnly P x → P r
  only-given x r e p = rw e at p
