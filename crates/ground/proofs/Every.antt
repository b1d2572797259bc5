-- Laws of a test that holds of each element.
--     and_split, and-join              two tests at once
--     every_append, every-cat          of two lists and of pieces in a row
--     every-piece                      and so of each of the pieces
--     every_take, every_drop           of what a list begins with, and of what is left
--     every-at                         at a place
--     every-imply                      of a weaker test
-- Assumes nothing.
use mathlib.Core.Path.{◌≡◌, refl}
use mathlib.Core.Bool.{Bool, true, false, ◌&&◌}
use mathlib.Core.Logic.{⊎_elim}
use mathlib.Core.List.{List, [], ◌∷◌, ◌++◌}
use Prim.Native.Nat.{ℕ, zero, suc, ◌<◌}
use native.Mathlib.Omega.{arith}
use lib.ListN.{length, get_or, take, drop}
use lib.Seq.{take-append_seam, drop-append_seam}
use Rattle.ground.specs.Tables.{every, cat}
use Rattle.ground.proofs.Cases.{lt-or-ge}

pub and_split : (t u : Bool) → t && u ≡ true → (t ≡ true) × (u ≡ true)
and_split true u e = (refl, e)
and_split false u e = (e, cc)

pub and-join : (t u : Bool) → t ≡ true → u ≡ true → t && u ≡ true
and-join t u e f = rw (e, f)

module _ {A : Type 0} (p : A → Bool) where
  pub every_append : (xs ys : List A) → every p xs ≡ true → every p ys ≡ true → every p (xs ++ ys) ≡ true
  every_append [] ys h k = k
  every_append (x ∷ xs) ys h k =
      let s = and_split (p x) (every p xs) h in
      and-join (p x) (every p (xs ++ ys)) s.0 (every_append xs ys s.1 k)

  pub every-cat : (f : ℕ → List A) (n : ℕ) → ((i : ℕ) → i < n → every p (f i) ≡ true) → every p (cat f n) ≡ true
  every-cat f zero h = refl
  every-cat f (suc n) h = every_append (cat f n) (f n) (every-cat f n (λ i l. h i (omega arith))) (h n (omega arith))

  pub every_take : (n : ℕ) (l : List A) → every p l ≡ true → every p (take n l) ≡ true
  every_take zero l h = refl
  every_take (suc n) [] h = refl
  every_take (suc n) (a ∷ l) h =
      let s = and_split (p a) (every p l) h in
      and-join (p a) (every p (take n l)) s.0 (every_take n l s.1)

  pub every_drop : (n : ℕ) (l : List A) → every p l ≡ true → every p (drop n l) ≡ true
  every_drop zero l h = h
  every_drop (suc n) [] h = refl
  every_drop (suc n) (a ∷ l) h = every_drop n l (and_split (p a) (every p l) h).1

  pub every-piece : (f : ℕ → List A) (n : ℕ) → every p (cat f n) ≡ true → (i : ℕ) → i < n → every p (f i) ≡ true
  every-piece f zero h i k = absurd (omega arith)
  every-piece f (suc n) h i k =
      let front : every p (cat f n) ≡ true = rw take-append_seam at (every_take (length (cat f n)) (cat f n ++ f n) h) in
      let back : every p (f n) ≡ true = rw drop-append_seam at (every_drop (length (cat f n)) (cat f n ++ f n) h) in
      ⊎_elim (λ q. every-piece f n front i q) (λ q. let e : i ≡ n = omega arith in rw e back) (lt-or-ge i n)

  pub every-at : (l : List A) (i : ℕ) (z : A) → every p l ≡ true → i < length l → p (get_or l i z) ≡ true
  every-at [] i z h k = absurd (omega arith)
  every-at (a ∷ l) zero z h k = (and_split (p a) (every p l) h).0
  every-at (a ∷ l) (suc i) z h k = every-at l i z (and_split (p a) (every p l) h).1 (omega arith)

pub every-imply : {A : Type 0} (p q : A → Bool) (l : List A) → ((a : A) → p a ≡ true → q a ≡ true) → every p l ≡ true → every q l ≡ true
every-imply p q [] h e = refl
every-imply p q (a ∷ l) h e =
    let s = and_split (p a) (every p l) e in
    and-join (q a) (every q l) (h a s.0) (every-imply p q l h s.1)
