-- Going by cases on a test or on an order, with no motive to write.
--     on_test       a test comes out one way or the other
--     lt-or-ge      one number is below another or not
--     if-and        a choice by two tests at once is a choice in a choice
--     clash         from a false equation anything follows
-- Assumes nothing.
use Rattle.std.specs.Prelude.{if◌then◌else◌}
use mathlib.Core.Path.{◌≡◌, refl}
use mathlib.Core.Logic.{◌⊎◌, inl, inr}
use mathlib.Core.Bool.{Bool, true, false, ◌&&◌}
use Prim.Native.Nat.{ℕ, ◌<◌, ◌≤◌}
use native.Mathlib.Omega.{arith}
use lib.Dec.{ltb}
use borrow.Author.Tests.{ltb-true, ltb-false}

-- `on_test (eqb b 44) (λ e. rw (f, e) ..) (λ e. rw (f, e) ..)`
pub on_test : {C : Type 0} (t : Bool) → (t ≡ true → C) → (t ≡ false → C) → C
on_test true f g = f refl
on_test false f g = g refl

pub lt-or-ge : (a b : ℕ) → (a < b) ⊎ (b ≤ a)
lt-or-ge a b = on_test (ltb a b) (λ e. inl (ltb-true a b e)) (λ e. inr (ltb-false a b e))

pub if-and : {A : Type 0} (t u : Bool) (a b : A) → (if t && u then a else b) ≡ (if t then if u then a else b else b)
if-and true u a b = refl
if-and false u a b = refl

-- `clash (cc)`, where two constructors are said to be equal
pub clash : {A : Type 0} → ◌≡◌ {A = ℕ} 0 1 → A
clash e = absurd (omega arith)
