-- Laws of what rules say.
--     must-told, must-holds     where a test comes first, and something is said, the test holds
--     then-told, bind-told      where one comes after another, and something is said, both say something
--     bind-ext                  the same follows where the same follows from each value
--     bind_assoc                three in a row, however they are bracketed
--     no_byte                   a refusal leaves a lent buffer as it was
--     filled-told               a part that was lent and filled with what was said: the buffer is what was said over the old one
--     answer-told, refusal-told what the code answers, where it is said and where it is refused
--     said-answered             and back: an answer says a where it is a
--     only-told                 what was said stands at the buffer's front, what follows it is as it was, and so is the length
-- Assumes nothing.
use mathlib.Core.Path.{◌≡◌, refl}
use mathlib.Core.Bool.{Bool, true, false}
use mathlib.Core.List.{List, ◌++◌}
use Prim.Native.Nat.{ℕ, ◌≤◌}
use native.Mathlib.Omega.{arith}
use lib.ListN.{length, take, drop, length-append, length-drop}
use lib.Seq.{take_at, drop_at}
use Rattle.std.proofs.Common.{Result, Ok, Err}
use Rattle.ground.specs.Said.{Said, says, refuses, ◌>>=◌, ◌>>◌, must, over, answer_of, answer_said}
use Rattle.ground.proofs.Cases.{clash}

pub must-told : {R B : Type 0} (t : Bool) (r : R) (x : Said R B) (b : B) → (must t r >> x) ≡ says b → (t ≡ true) × (x ≡ says b)
must-told true r x b e = (refl, e)
must-told false r x b e = (cc, cc)

pub must-holds : {R : Type 0} (t : Bool) (r : R) → must t r ≡ says tt → t ≡ true
must-holds true r e = refl
must-holds false r e = cc

pub then-told : {R B : Type 0} (x : Said R (Unit {0})) (y : Said R B) (b : B) → (x >> y) ≡ says b → (x ≡ says tt) × (y ≡ says b)
then-told (says tt) y b e = (refl, e)
then-told (refuses r) y b e = (cc, cc)

pub bind-told : {R A B : Type 0} (x : Said R A) (f : A → Said R B) (b : B) → (x >>= f) ≡ says b → (a : A) × (x ≡ says a) × (f a ≡ says b)
bind-told (says a) f b e = (a, refl, e)
bind-told (refuses r) f b e = clash (cc)

pub bind-ext : {R A B : Type 0} (x : Said R A) (f g : A → Said R B) → ((a : A) → f a ≡ g a) → (x >>= f) ≡ (x >>= g)
bind-ext (says a) f g h = h a
bind-ext (refuses r) f g h = refl

pub bind_assoc : {R A B C : Type 0} (x : Said R A) (f : A → Said R B) (g : B → Said R C) → (x >>= f >>= g) ≡ (x >>= λ a. f a >>= g)
bind_assoc (says a) f g = refl
bind_assoc (refuses r) f g = refl

pub answer-told : {R A : Type 0} (x : Said R A) (a : A) → answer_of x ≡ Ok a → x ≡ says a
answer-told (says b) a e = cc
answer-told (refuses r) a e = clash (cc)

pub refusal-told : {R A : Type 0} (x : Said R A) (r : R) → answer_of x ≡ Err r → x ≡ refuses r
refusal-told (says b) r e = clash (cc)
refusal-told (refuses q) r e = cc

pub said-answered : {R A : Type 0} (x : Result A R) (a : A) → answer_said x ≡ says a → x ≡ Ok a
said-answered (Ok b) a e = cc
said-answered (Err r) a e = clash (cc)

pub filled-told : {R A : Type 0} (x : Said R (List A)) (new old filled : List A) (m : ℕ) → x ≡ says new → filled ≡ new → m ≡ length new
    → filled ++ drop m old ≡ over x old
filled-told x new old filled m e f k = rw (e, f, k)

-- DEMAND 1. On "no" no byte of a lent buffer is changed
pub no_byte : {R A : Type 0} (x : Said R (List A)) (r : R) (old : List A) → x ≡ refuses r → over x old ≡ old
no_byte x r old e = rw e

-- DEMAND 1. On "yes" what was said is written, and nothing past it
pub only-told : {R A : Type 0} (x : Said R (List A)) (new old : List A) → x ≡ says new → length new ≤ length old
    → (take (length new) (over x old) ≡ new) × (drop (length new) (over x old) ≡ drop (length new) old) × (length (over x old) ≡ length old)
only-told x new old e h =
    rw e (
      take_at new (drop (length new) old) (length new) refl,
      drop_at new (drop (length new) old) (length new) refl,
      simp (length-append, length-drop) (omega arith),
    )
