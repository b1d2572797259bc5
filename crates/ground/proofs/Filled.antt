-- Laws of lists that are filled by parts: tables and filled lists taken apart, and lent again.
--     tab-front, tab-split        a table is its first element and the others, or its first a and the others
--     part-padded, get_or-padded    a part of a filled list, and an element of it
--     part_filled                 a part of a list that is filled from another
--     padded-again                a filled list, filled anew from itself
--     front_length, padded-fill   the first d places of a list of n equal ones are lent, and filled
--     tab-turn                    the next part of a lent slice is filled by a table: a turn of a loop
--     parts_join                  two parts that meet are one
-- Assumes nothing.
use mathlib.Core.Path.{◌≡◌, refl, sym, ap, ◌∙◌}
use mathlib.Core.List.{List, ◌∷◌, ◌++◌, append_assoc, append-nil}
use Prim.Native.Nat.{ℕ, zero, suc, ◌+◌, ◌-◌, ◌<◌, ◌≤◌}
use native.Mathlib.Nat.{add-zero, add-suc, sub-zero, zero-sub}
use native.Mathlib.Omega.{arith}
use lib.ListN.{length, get_or, take, drop, replicate, length-replicate, get_or-append, take-append-drop}
use lib.Seq.{drop-drop, take-add, length-take-le}
use Rattle.ground.specs.Tables.{part, tab, padded}
use Rattle.ground.proofs.Parts.{part-front, part-back, put_next, put-length}
use Rattle.ground.proofs.Tables.{length-tab, get_or-tab, tab-ext, tab-take}

module _ {A : Type 0} (g : ℕ → A) where
  pub tab-front : (n : ℕ) → tab g (suc n) ≡ g 0 ∷ tab (λ i. g (suc i)) n
  tab-front zero = refl
  tab-front (suc n) = rw (tab-front n)

  pub tab-split : (a b : ℕ) → tab g (a + b) ≡ tab g a ++ tab (λ i. g (a + i)) b
  tab-split a zero = rw (add-zero, append-nil)
  tab-split a (suc b) = rw (add-suc, tab-split a b, append_assoc)

  part-tab : (f t : ℕ) → f ≤ t → part f t (tab g t) ≡ tab (λ i. g (f + i)) (t - f)
  part-tab f t h =
      let e : t ≡ f + (t - f) = omega arith in
      let k : f + length (tab (λ i. g (f + i)) (t - f)) ≡ t = rw length-tab (omega arith) in
      ap (λ (m : ℕ). part f t (tab g m)) e
      ∙ rw tab-split (part-back f t (tab g f) (tab (λ i. g (f + i)) (t - f)) (length-tab g f) k)

  pub part-padded : (f t a n : ℕ) (z : A) → f ≤ t → t ≤ a → part f t (padded g a n z) ≡ tab (λ i. g (f + i)) (t - f)
  part-padded f t a n z h k =
      let e : a ≡ t + (a - t) = omega arith in
      let q : tab g a ≡ tab g t ++ tab (λ i. g (t + i)) (a - t) = ap (tab g) e ∙ tab-split t (a - t) in
      let r = replicate (n - a) z in
      part-front f t (tab g a) r h (rw length-tab k)
      ∙ rw q (part-front f t (tab g t) (tab (λ i. g (t + i)) (a - t)) h (rw length-tab (omega arith)))
      ∙ part-tab f t h

  pub get_or-padded : (a n i : ℕ) (z y : A) → i < a → get_or (padded g a n z) i y ≡ g i
  get_or-padded a n i z y h =
      get_or-append (tab g a) (replicate (n - a) z) y i (rw length-tab h) ∙ get_or-tab g a i y h

  pub padded-again : (a n : ℕ) (z : A) → padded (λ i. get_or (padded g a n z) i z) a n z ≡ padded g a n z
  padded-again a n z = rw (tab-ext (λ i. get_or (padded g a n z) i z) g a (λ i h. get_or-padded a n i z z h))

  -- over a list that is as it was past the first f
  pub tab-turn : (d l ys : List A) (f t : ℕ) → length l ≡ length d → l ≡ tab g f ++ drop f d → f ≤ t → t ≤ length l
      → ys ≡ tab (λ i. g (f + i)) (t - f)
      → (length (take f l ++ (ys ++ drop (t - f) (drop f l))) ≡ length d)
      × (take f l ++ (ys ++ drop (t - f) (drop f l)) ≡ tab g t ++ drop t d)
  tab-turn d l ys f t e q h k y =
      let s : length ys ≡ t - f = ap length y ∙ length-tab (λ i. g (f + i)) (t - f) in
      let m : f + (t - f) ≡ t = omega arith in (
        put-length f t l ys h k s ∙ e,
        rw q (put_next d (tab g f) ys f t (length-tab g f) (omega arith) ∙ rw (y, ← tab-split, m)),
      )

-- a part within the first a places
pub part_filled : {A : Type 0} (z : A) (l : List A) (f t a n : ℕ) → f ≤ t → t ≤ a → a ≤ length l
    → part f t (padded (λ i. get_or l i z) a n z) ≡ part f t l
part_filled z l f t a n h k m =
    let w : length (take a l) ≡ a = length-take-le a l m in
    rw (tab-take l z a m)
    (part-front f t (take a l) (replicate (n - a) z) h (omega arith)
    ∙ sym (part-front f t (take a l) (drop a l) h (omega arith)) ∙ ap (part f t) (take-append-drop a l))

drop-same : {A : Type 0} (d n : ℕ) (z : A) → drop d (replicate n z) ≡ replicate (n - d) z
drop-same zero n z = rw sub-zero
drop-same (suc d) zero z = rw zero-sub
drop-same (suc d) (suc n) z = let e : suc n - suc d ≡ n - d = omega arith in rw e (drop-same d n z)

module _ {A : Type 0} (d n : ℕ) (z : A) (fits : d ≤ n) where
  pub front_length : length (take d (replicate n z)) ≡ d
  front_length = length-take-le d (replicate n z) (rw length-replicate fits)

  pub padded-fill : (g : ℕ → A) (ys : List A) → ys ≡ tab g (length (take d (replicate n z))) → ys ++ drop d (replicate n z) ≡ padded g d n z
  padded-fill g ys e = rw (e, front_length, drop-same)

pub parts_join : {A : Type 0} (a b c : ℕ) (l : List A) → a ≤ b → b ≤ c → part a b l ++ part b c l ≡ part a c l
parts_join a b c l h k =
    let e : a + (b - a) ≡ b = omega arith in
    let m : c - a ≡ b - a + (c - b) = omega arith in
    rw (m, take-add, drop-drop, e)
