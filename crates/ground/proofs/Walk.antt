-- A walk over a list by an index: what is left at i is the element there and what is left at i + 1; at the end nothing is left.
--     here, done       what is left at a place within the list, and past its end
--     drop_min         past its end a list has nothing more to drop
--     rest             the part from a place on, as `&l[n..]` has it
--     first, none      a list by its first element, where it has one
--     here-any, first_any     the same of any element type: z is what a read past the end gives
-- Assumes nothing.
use mathlib.Core.Path.{◌≡◌, refl}
use mathlib.Core.Logic.{⊎_elim}
use mathlib.Core.List.{List, [], ◌∷◌}
use Prim.Native.Nat.{ℕ, ◌+◌, ◌-◌, ◌≤◌, ◌<◌, min}
use native.Mathlib.Nat.{le_of_eq, not-suc-le-zero}
use native.Mathlib.Numerals.{add-one}
use native.Mathlib.Omega.{arith}
use lib.ListN.{length, drop, take, get_or, drop_of_length-le, length-drop}
use lib.Seq.{drop-cons, drop-length, take_all}
use Rattle.ground.proofs.Cases.{lt-or-ge}

module _ {A : Type 0} where
  pub here-any : (z : A) (l : List A) (i : ℕ) → i < length l → drop i l ≡ get_or l i z ∷ drop (i + 1) l
  here-any z l i h = rw (add-one, drop-cons l i z h)

  pub done : (l : List A) (i : ℕ) → length l ≤ i → drop i l ≡ []
  done l i h = drop_of_length-le l h

  pub drop_min : (n : ℕ) (l : List A) → drop (min n (length l)) l ≡ drop n l
  drop_min n l =
      ⊎_elim
      (λ h. let e : min n (length l) ≡ n = omega arith in rw e)
      (λ h. let e : min n (length l) ≡ length l = omega arith in rw (e, drop-length, done l n h))
      (lt-or-ge n (length l))

  pub rest : (l : List A) (n : ℕ) → take (length l - n) (drop n l) ≡ drop n l
  rest l n = take_all (length l - n) (drop n l) (le_of_eq (length-drop n l))

  pub first_any : (z : A) (l : List A) → 1 ≤ length l → l ≡ get_or l 0 z ∷ drop 1 l
  first_any z [] h = absurd (not-suc-le-zero h)
  first_any z (a ∷ l) h = refl

  pub none : (l : List A) → length l < 1 → l ≡ []
  none [] h = refl
  none (a ∷ l) h = absurd (omega arith)

pub here : (l : List ℕ) (i : ℕ) → i < length l → drop i l ≡ get_or l i 0 ∷ drop (i + 1) l
here = here-any 0

pub first : (l : List ℕ) → 1 ≤ length l → l ≡ get_or l 0 0 ∷ drop 1 l
first = first_any 0
