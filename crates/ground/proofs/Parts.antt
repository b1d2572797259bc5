-- Laws of a part of a list: its length, where it lies, and what the whole is after a part was lent and filled.
--     length_part, length-part-le     how long a part is
--     part-front, part-back           a part of the first, and the second, of two lists
--     part_none, part-here            an empty part, and a part by its first element
--     part-rest, part-part            what is left of a part from a place on is a part, and so is a part of a part
--     put_next, put-length            the next part of a lent slice is filled
--     halves, half_length             two parts that meet are filled, one after the other
--     put_first                       the first element is stored, and the rest filled
--     put-pair                        both elements of two are stored
-- Assumes nothing.
use mathlib.Core.Path.{◌≡◌, refl, sym, ap, ◌∙◌}
use mathlib.Core.List.{List, [], ◌∷◌, ◌++◌, append_assoc, append-nil}
use Prim.Native.Nat.{ℕ, suc, ◌+◌, ◌-◌, ◌<◌, ◌≤◌}
use native.Mathlib.Nat.{min-le_left}
use native.Mathlib.Omega.{arith}
use lib.ListN.{length, get_or, take, drop, set, length-append, length-drop, length-take, take-append-drop}
use lib.Seq.{take_at, take-add, drop_at, drop-drop, drop-length, drop-append-le, take-append-le, take_all}
use Rattle.ground.specs.Tables.{part}
use Rattle.ground.proofs.Walk.{here-any}

module _ {A : Type 0} where
  pub length-part-le : (f t : ℕ) (l : List A) → length (part f t l) ≤ t - f
  length-part-le f t l = rw length-take (min-le_left (t - f) (length (drop f l)))

  pub length_part : (f t : ℕ) (l : List A) → t ≤ length l → length (part f t l) ≡ t - f
  length_part f t l h = simp (length-take, length-drop) (omega arith)

  pub part-front : (f t : ℕ) (xs ys : List A) → f ≤ t → t ≤ length xs → part f t (xs ++ ys) ≡ part f t xs
  part-front f t xs ys h k =
      let b : t - f ≤ length (drop f xs) = rw length-drop (omega arith) in
      rw (drop-append-le f xs ys (omega arith), take-append-le (t - f) (drop f xs) ys b)

  pub part-back : (f t : ℕ) (xs ys : List A) → length xs ≡ f → f + length ys ≡ t → part f t (xs ++ ys) ≡ ys
  part-back f t xs ys h k = rw (drop_at xs ys f h) (take_all (t - f) ys (omega arith))

  pub part_none : (f : ℕ) (l : List A) → part f f l ≡ []
  part_none f l = let e : f - f ≡ 0 = omega arith in rw e

  pub part-here : (z : A) (f t : ℕ) (l : List A) → f < t → t ≤ length l → part f t l ≡ get_or l f z ∷ part (f + 1) t l
  part-here z f t l h k = let e : t - f ≡ suc (t - (f + 1)) = omega arith in rw (e, here-any z l f (omega arith))

  pub part-rest : (f m t : ℕ) (l : List A) → f ≤ m → m ≤ t → m ≤ length l → drop (m - f) (part f t l) ≡ part m t l
  part-rest f m t l h k w =
      let e : t - f ≡ m - f + (t - m) = omega arith in
      let q : f + (m - f) ≡ m = omega arith in
      rw (e, take-add (m - f) (t - m) (drop f l), drop-drop (m - f) f l, q) (drop_at (part f m l) (part m t l) (m - f) (length_part f m l w))

  pub part-part : (a e f t : ℕ) (l : List A) → f ≤ t → a + t ≤ e → e ≤ length l → part f t (part a e l) ≡ part (a + f) (a + t) l
  part-part a e f t l h k w =
      let n : length (part a e l) ≡ e - a = length_part a e l w in
      let q : a + t - (a + f) ≡ t - f = omega arith in
      sym (part-front f t (part a e l) (drop (e - a) (drop a l)) h (omega arith))
      ∙ ap (part f t) (take-append-drop (e - a) (drop a l))
      ∙ rw (drop-drop f a l, q)

  -- d begins with P, and ys is written right after it
  pub put_next : (d P ys : List A) (f t : ℕ) → length P ≡ f → f + length ys ≡ t
      → take f (P ++ drop f d) ++ (ys ++ drop (t - f) (drop f (P ++ drop f d))) ≡ (P ++ ys) ++ drop t d
  put_next d P ys f t hp ht =
      let e : f + (t - f) ≡ t = omega arith in
      rw (take_at P (drop f d) f hp, drop_at P (drop f d) f hp, drop-drop (t - f) f d, e) (sym (append_assoc P ys (drop t d)))

  -- a part that was lent and filled leaves the whole as long as it was
  pub put-length : (f t : ℕ) (l ys : List A) → f ≤ t → t ≤ length l → length ys ≡ t - f
      → length (take f l ++ (ys ++ drop (t - f) (drop f l))) ≡ length l
  put-length f t l ys h k e = simp (length-append, length-take, length-drop) (omega arith)

  -- two parts that meet at k are the whole
  pub halves : (d P Q : List A) (k n : ℕ) → length P ≡ k → k + length Q ≡ n → length d ≡ n
      → take k (P ++ drop k d) ++ (Q ++ drop (n - k) (drop k (P ++ drop k d))) ≡ P ++ Q
  halves d P Q k n hp hq hd = put_next d P Q k n hp hq ∙ rw (← hd, drop-length, append-nil)

  -- the second of them has its length, once the first is filled
  pub half_length : (d P : List A) (k n : ℕ) → length P ≡ k → k ≤ n → n ≤ length d → length (part k n (P ++ drop k d)) ≡ n - k
  half_length d P k n hp hk hn = length_part k n (P ++ drop k d) (simp (length-append, length-drop) (omega arith))

  pub put_first : (d ys : List A) (a : A) → 1 ≤ length d
      → take 1 (set d 0 a) ++ (ys ++ drop (length (set d 0 a) - 1) (drop 1 (set d 0 a))) ≡ a ∷ ys
  put_first [] ys a h = absurd (omega arith)
  put_first (x ∷ d) ys a h =
      let e : suc (length d) - 1 ≡ length d = omega arith in
      rw (e, drop-length, append-nil)

  pub put-pair : (d : List A) (a b : A) → length d ≡ 2 → set (set d 0 a) 1 b ≡ a ∷ b ∷ []
  put-pair [] a b h = absurd (omega arith)
  put-pair (x ∷ []) a b h = absurd (omega arith)
  put-pair (x ∷ y ∷ []) a b h = refl
  put-pair (x ∷ y ∷ z ∷ d) a b h = absurd (omega arith)
