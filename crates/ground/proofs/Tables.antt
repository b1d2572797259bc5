-- Laws of lists that are filled from the front: tab, padded and cat.
--     length-tab, length-padded, length-cat     how long they are
--     tab-set, padded-set, cat-turn             one element or piece more: a turn of a loop that fills a list
--     get_or-tab, part-cat                        element i, and piece i
--     tab-ext, cat-ext                          the same elements, or pieces, are the same list
--     tab-take, tab-get_or, cat-part              a list is the table of its elements, or its first n, and its parts of one width in a row
--     cat-front, cat-split                      pieces in a row are the first and the row of the others, or the first a and the others
--     block-end                                 the i-th of a blocks of w lies within them
-- Assumes nothing.
use mathlib.Core.Path.{◌≡◌, refl, sym, ap, ◌∙◌}
use mathlib.Core.Logic.{⊎_elim}
use mathlib.Core.List.{List, [], ◌∷◌, ◌++◌, append_assoc, append-nil}
use Prim.Native.Nat.{ℕ, zero, suc, ◌+◌, ◌-◌, ◌*◌, ◌<◌, ◌≤◌}
use native.Mathlib.Nat.{add-zero, add-suc, zero-mul, suc-mul, mul-le-mul_right}
use native.Mathlib.Numerals.{add-one}
use native.Mathlib.Omega.{arith}
use lib.ListN.{length, get_or, take, drop, set, replicate, length-append, length-replicate, get_or-append}
use lib.Seq.{set_at, get_or_at, drop-cons, append_snoc, take_all, take-suc, take-add}
use Rattle.ground.specs.Tables.{tab, padded, cat, part}
use Rattle.ground.proofs.Cases.{lt-or-ge}
use Rattle.ground.proofs.Parts.{part-front, part-back, put_next, put-length}

pub block-end : (i a w : ℕ) → i < a → i * w + w ≤ a * w
block-end i a w h = rw (← suc-mul i w) (mul-le-mul_right w h)

module _ {A : Type 0} (f : ℕ → A) where
  pub length-tab : (n : ℕ) → length (tab f n) ≡ n
  length-tab zero = refl
  length-tab (suc n) = length-append (tab f n) (f n ∷ []) ∙ omega (arith, length-tab n)

  pub length-padded : (a n : ℕ) (z : A) → a ≤ n → length (padded f a n z) ≡ n
  length-padded a n z h = simp (length-append, length-tab, length-replicate) (omega arith)

  -- over a list that is as it was past the first i
  pub tab-set : (l : List A) (i : ℕ) → i < length l → set (tab f i ++ drop i l) i (f i) ≡ tab f (i + 1) ++ drop (i + 1) l
  tab-set l i h =
      rw (add-one, drop-cons l i (f i) h)
      (set_at (tab f i) (get_or l i (f i)) (drop (suc i) l) (f i) i (length-tab i) ∙ sym (append_snoc (tab f i) (f i) (drop (suc i) l)))

  -- of a list that is z past the first i
  pub padded-set : (i n : ℕ) (z : A) → i < n → set (padded f i n z) i (f i) ≡ padded f (i + 1) n z
  padded-set i n z h =
      let e : n - i ≡ suc (n - (i + 1)) = omega arith in
      rw e
      (set_at (tab f i) z (replicate (n - (i + 1)) z) (f i) i (length-tab i)
      ∙ sym (append_snoc (tab f i) (f i) (replicate (n - (i + 1)) z))
      ∙ ap (λ (k : ℕ). tab f k ++ replicate (n - (i + 1)) z) (sym (add-one i)))

  pub get_or-tab : (n i : ℕ) (z : A) → i < n → get_or (tab f n) i z ≡ f i
  get_or-tab zero i z h = absurd (omega arith)
  get_or-tab (suc n) i z h =
      ⊎_elim
      (λ l. get_or-append (tab f n) (f n ∷ []) z i (rw (length-tab n) l) ∙ get_or-tab n i z l)
      (λ l. let e : i ≡ n = omega arith in rw e (get_or_at (tab f n) (f n) [] z n (length-tab n)))
      (lt-or-ge i n)

pub tab-ext : {A : Type 0} (f g : ℕ → A) (n : ℕ) → ((i : ℕ) → i < n → f i ≡ g i) → tab f n ≡ tab g n
tab-ext f g zero h = refl
tab-ext f g (suc n) h = rw (tab-ext f g n (λ i l. h i (omega arith)), h n (omega arith))

pub cat-ext : {A : Type 0} (f g : ℕ → List A) (n : ℕ) → ((i : ℕ) → i < n → f i ≡ g i) → cat f n ≡ cat g n
cat-ext f g zero h = refl
cat-ext f g (suc n) h = rw (cat-ext f g n (λ i l. h i (omega arith)), h n (omega arith))

pub cat-front : {A : Type 0} (f : ℕ → List A) (n : ℕ) → cat f (suc n) ≡ f 0 ++ cat (λ i. f (i + 1)) n
cat-front f zero = rw append-nil
cat-front f (suc n) = rw (cat-front f n, add-one, append_assoc)

pub cat-split : {A : Type 0} (f : ℕ → List A) (a b : ℕ) → cat f (a + b) ≡ cat f a ++ cat (λ i. f (a + i)) b
cat-split f a zero = rw (add-zero, append-nil)
cat-split f a (suc b) = rw (add-suc, cat-split f a b, append_assoc)

module _ {A : Type 0} (l : List A) where
  pub tab-take : (z : A) (n : ℕ) → n ≤ length l → tab (λ i. get_or l i z) n ≡ take n l
  tab-take z zero h = refl
  tab-take z (suc n) h = rw (tab-take z n (omega arith), take-suc l n z h)

  pub tab-get_or : (z : A) → tab (λ i. get_or l i z) (length l) ≡ l
  tab-get_or z = tab-take z (length l) (omega arith) ∙ take_all (length l) l (omega arith)

  cat-take : (w n : ℕ) → cat (λ i. part (i * w) (i * w + w) l) n ≡ take (n * w) l
  cat-take w zero = rw zero-mul
  cat-take w (suc n) =
      let e : n * w + w - n * w ≡ w = omega arith in
      rw (cat-take w n, e, suc-mul, take-add)

  pub cat-part : (w n : ℕ) → length l ≡ n * w → cat (λ i. part (i * w) (i * w + w) l) n ≡ l
  cat-part w n h = cat-take w n ∙ take_all (n * w) l (omega arith)

-- pieces that are all w long
module _ {A : Type 0} (f : ℕ → List A) (w : ℕ) (even : (i : ℕ) → length (f i) ≡ w) where
  pub length-cat : (n : ℕ) → length (cat f n) ≡ n * w
  length-cat zero = sym (zero-mul w)
  length-cat (suc n) = length-append (cat f n) (f n) ∙ rw (length-cat n, even n, suc-mul)

  -- over a list that is as it was past the first i pieces
  cat-put : (d : List A) (i : ℕ)
      → take (i * w) (cat f i ++ drop (i * w) d) ++ (f i ++ drop (i * w + w - i * w) (drop (i * w) (cat f i ++ drop (i * w) d)))
      ≡ cat f (i + 1) ++ drop ((i + 1) * w) d
  cat-put d i =
      let e : i * w + length (f i) ≡ i * w + w = rw (even i) in
      put_next d (cat f i) (f i) (i * w) (i * w + w) (length-cat i) e ∙ rw (add-one, suc-mul)

  -- piece i of a lent slice is filled: the slice keeps its length, and has one piece more
  pub cat-turn : (d l ys : List A) (i : ℕ) → length l ≡ length d → l ≡ cat f i ++ drop (i * w) d → i * w + w ≤ length l → ys ≡ f i
      → (length (take (i * w) l ++ (ys ++ drop (i * w + w - i * w) (drop (i * w) l))) ≡ length d)
      × (take (i * w) l ++ (ys ++ drop (i * w + w - i * w) (drop (i * w) l)) ≡ cat f (i + 1) ++ drop ((i + 1) * w) d)
  cat-turn d l ys i e q r y =
      let s : length ys ≡ i * w + w - i * w = ap length y ∙ even i ∙ omega arith in
      (put-length (i * w) (i * w + w) l ys (omega arith) r s ∙ e, rw (q, y) (cat-put d i))

  pub part-cat : (n i : ℕ) → i < n → part (i * w) (i * w + w) (cat f n) ≡ f i
  part-cat zero i h = absurd (omega arith)
  part-cat (suc n) i h =
      let s : n * w + length (f n) ≡ n * w + w = rw (even n) in
      ⊎_elim
      (λ l. part-front (i * w) (i * w + w) (cat f n) (f n) (omega arith) (rw (length-cat n) (block-end i n w l)) ∙ part-cat n i l)
      (λ l. let q : i ≡ n = omega arith in rw q (part-back (n * w) (n * w + w) (cat f n) (f n) (length-cat n) s))
      (lt-or-ge i n)
