-- Laws of the reasons' texts.
--     piece, piece-within        piece i of pieces in a row lies between where it and where the next one begin, and within the row
--     table-length, in_table     how long all texts in a row are, and where the text of number i + 1 lies in it
--     reason-told                what is said for a number from 1 to 17 is its text
--     reason-untold              and every other number is refused with 10
-- Assumes nothing.
use mathlib.Core.Path.{◌≡◌, refl, ap, ◌∙◌}
use mathlib.Core.Bool.{Bool, true, false}
use mathlib.Core.Logic.{◌⊎◌, ⊎_elim}
use mathlib.Core.List.{List, ◌++◌}
use Prim.Native.Nat.{ℕ, ◌+◌, ◌-◌, ◌<◌, ◌≤◌}
use native.Mathlib.Numerals.{add-one}
use native.Mathlib.Omega.{arith}
use borrow.Author.Tests.{ne_eqb}
use lib.Dec.{eqb}
use lib.ListN.{length, length-append}
use Rattle.ground.specs.Said.{Said, says, refuses}
use Rattle.ground.specs.Tables.{part, cat, tab, every}
use Rattle.ground.proofs.Every.{every-at}
use Rattle.ground.proofs.Parts.{part-front, part-back}
use Rattle.ground.proofs.Tables.{cat-split, get_or-tab}
use Rattle.model.specs.declared.Refusal.{Refusal}
use Rattle.model.specs.Refusals.{refused}
use Rattle.reasons.specs.Reasons.{reason_of, text_said, reason_said}
use Rattle.reasons.specs.Inner.{text_in, reason_text}

module _ {A : Type 0} (f : ℕ → List A) (n i : ℕ) (h : i < n) where
  -- the pieces up to piece i, and those after it
  split : cat f n ≡ cat f (i + 1) ++ cat (λ j. f (i + 1 + j)) (n - (i + 1))
  split = let e : n ≡ i + 1 + (n - (i + 1)) = omega arith in rw (← e) at (cat-split f (i + 1) (n - (i + 1)))

  here : cat f (i + 1) ≡ cat f i ++ f i
  here = rw (add-one i)

  next : length (cat f i) + length (f i) ≡ length (cat f (i + 1))
  next = rw (here, length-append)

  pub piece-within : (length (cat f i) ≤ length (cat f (i + 1))) × (length (cat f (i + 1)) ≤ length (cat f n))
  piece-within = (omega (arith, next), rw (split, length-append) (omega arith))

  pub piece : part (length (cat f i)) (length (cat f (i + 1))) (cat f n) ≡ f i
  piece =
      let after = cat (λ j. f (i + 1 + j)) (n - (i + 1)) in
      let p = part-front (length (cat f i)) (length (cat f (i + 1))) (cat f (i + 1)) after piece-within.0 (omega arith) in
      ap (λ l. part (length (cat f i)) (length (cat f (i + 1))) l) split
      ∙ p
      ∙ ap (λ l. part (length (cat f i)) (length (cat f (i + 1))) l) here
      ∙ part-back (length (cat f i)) (length (cat f (i + 1))) (cat f i) (f i) refl next

pub table-length : length (cat reason_text 17) ≡ 556
unfolding reason_text reason_of
table-length = refl

-- where the text of number i + 1 lies among all in a row
pub in_table : (i : ℕ) → i < 17 → (length (cat reason_text i) ≤ length (cat reason_text (i + 1))) × (length (cat reason_text (i + 1)) ≤ length (cat reason_text 17)) × (part (length (cat reason_text i)) (length (cat reason_text (i + 1))) (cat reason_text 17) ≡ reason_text i)
in_table i h = let w = piece-within reason_text 17 i h in (w.0, w.1, piece reason_text 17 i h)

-- the answer is a text
abbrev is_said : {R A : Type 0} → Said R A → Bool
is_said (says a) = true
is_said (refuses r) = false

said-text : (x : Said Refusal (List ℕ)) → is_said x ≡ true → x ≡ says (text_in x)
said-text (says text) e = refl
said-text (refuses r) e = cc

-- each of the numbers from 1 to 17 has a text
all_said : every (λ i. is_said (reason_of (i + 1))) (tab (λ i. i) 17) ≡ true
unfolding reason_of
all_said = refl

has-text : (i : ℕ) → i < 17 → reason_of (i + 1) ≡ says (reason_text i)
unfolding reason_text
has-text i h =
    let e = every-at (λ j. is_said (reason_of (j + 1))) (tab (λ j. j) 17) i 0 all_said h in
    said-text (reason_of (i + 1)) (rw (get_or-tab (λ j. j) 17 i 0 h) at e)

no_text : (n : ℕ) → (n < 1) ⊎ (17 < n) → reason_of n ≡ refuses (refused 10 0 0)
unfolding reason_of
no_text n h =
    let o : (k : ℕ) → k < 17 → eqb n (k + 1) ≡ false = λ k l. ne_eqb n (k + 1) (λ e. ⊎_elim (λ p. omega arith) (λ p. omega arith) h) in
    rw (
      o 0 (omega arith),
      o 1 (omega arith),
      o 2 (omega arith),
      o 3 (omega arith),
      o 4 (omega arith),
      o 5 (omega arith),
      o 6 (omega arith),
      o 7 (omega arith),
      o 8 (omega arith),
      o 9 (omega arith),
      o 10 (omega arith),
      o 11 (omega arith),
      o 12 (omega arith),
      o 13 (omega arith),
      o 14 (omega arith),
      o 15 (omega arith),
      o 16 (omega arith),
    )

pub reason-told : (i room : ℕ) → i < 17 → reason_said (i + 1) room ≡ text_said (reason_text i) room
unfolding reason_said
reason-told i room h = rw (has-text i h)

pub reason-untold : (n room : ℕ) → (n < 1) ⊎ (17 < n) → reason_said n room ≡ refuses (refused 10 0 0)
unfolding reason_said
reason-untold n room h = rw (no_text n h)
