-- Fields between commas, exactly.
--     plain-to, plain-from     characters of which none is a comma have no comma
--     fields-exactly           a line is the fields f 1, f 2, .. exactly when it has so many and each is found in its place
--     fields-of                so a line of n fields is the fields that are found in it
-- Assumes nothing.
use mathlib.Core.Path.{◌≡◌, refl, sym, ap, ◌∙◌}
use mathlib.Core.Logic.{◌↔◌}
use mathlib.Core.Bool.{true, not}
use mathlib.Core.List.{List, [], ◌∷◌, ◌++◌}
use Prim.Native.Nat.{ℕ, ◌+◌, ◌-◌, ◌≤◌}
use native.Mathlib.Omega.{arith}
use borrow.Author.Tests.{not-true}
use lib.Dec.{eqb}
use Rattle.ground.specs.Quoted.{quoted}
use Rattle.ground.specs.Tables.{cat, every}
use Rattle.ground.proofs.Cases.{on_test}
use Rattle.ground.proofs.Every.{and_split}
use Rattle.ground.proofs.Tables.{cat-ext}
use Rattle.text.specs.Fields.{commas, field_count, after_fields, field_at, joined}
use Rattle.text.proofs.FieldLaws.{first_plain, joined-count, joined_at, joined-ext, fields-joined}
use Rattle.paper.specs.Lines.{Fields}

plain-to : (l : List ℕ) → every (λ b. not (eqb b 44)) l ≡ true → commas l ≡ 0
plain-to [] h = refl
plain-to (b ∷ l) h =
    let s = and_split (not (eqb b 44)) (every (λ b. not (eqb b 44)) l) h in
    rw (not-true (eqb b 44) s.0) (plain-to l s.1)

plain-from : (l : List ℕ) → commas l ≡ 0 → every (λ b. not (eqb b 44)) l ≡ true
plain-from [] h = refl
plain-from (b ∷ l) h =
    on_test (eqb b 44)
    (λ e. let z : commas l + 1 ≡ 0 = rw e at h in absurd (omega arith))
    (λ e. rw e (plain-from l (rw e at h)))

joined_is : (f : ℕ → List ℕ) (n : ℕ) → f 1 ++ cat (λ i. quoted "," ++ f (i + 2)) n ≡ joined (λ i. f (i + 1)) n
unfolding joined
joined_is f n =
    ap (◌++◌ (f 1)) (cat-ext (λ i. quoted "," ++ f (i + 2)) (λ i. 44 ∷ f (i + 1 + 1)) n (λ i h. let e : i + 2 ≡ i + 1 + 1 = omega arith in ap (λ (k : ℕ). 44 ∷ f k) e))

-- n + 1 fields
module _ (n : ℕ) (f : ℕ → List ℕ) (l : List ℕ) where
  fields-to : Fields (n + 1) f l → (field_count l ≡ n + 1) × ((i : ℕ) → 1 ≤ i → i ≤ n + 1 → field_at i l ≡ f i)
  fields-to h =
      let m : n + 1 - 1 ≡ n = omega arith in
      let e : l ≡ joined (λ i. f (i + 1)) n = h.joined ∙ rw m (joined_is f n) in
      let plain : (j : ℕ) → j ≤ n → commas (f (j + 1)) ≡ 0 = λ j k. plain-to (f (j + 1)) (h.apart (j + 1) (omega arith) (omega arith)) in (
        ap field_count e ∙ joined-count (λ i. f (i + 1)) n plain,
        λ i p q. let d : i - 1 + 1 ≡ i = omega arith in rw d at (ap (field_at (i - 1 + 1)) e ∙ joined_at (λ i. f (i + 1)) n (i - 1) plain (omega arith)),
      )

  fields-from : field_count l ≡ n + 1 → ((i : ℕ) → 1 ≤ i → i ≤ n + 1 → field_at i l ≡ f i) → Fields (n + 1) f l
  unfolding field_at
  fields-from h k =
      let m : n + 1 - 1 ≡ n = omega arith in record {
        joined = sym (fields-joined n l h) ∙ joined-ext (λ i. field_at (i + 1) l) (λ i. f (i + 1)) n (λ i q. k (i + 1) (omega arith) (omega arith)) ∙ rw m (sym (joined_is f n));
        apart = λ i p q. plain-from (f i) (rw (← k i p q) (first_plain (after_fields (i - 1) l)));
      }

  fields-both : Fields (n + 1) f l ↔ ((field_count l ≡ n + 1) × ((i : ℕ) → 1 ≤ i → i ≤ n + 1 → field_at i l ≡ f i))
  fields-both = (fields-to, λ h. fields-from h.0 h.1)

pub fields-exactly : (n : ℕ) (f : ℕ → List ℕ) (l : List ℕ) → 1 ≤ n → Fields n f l ↔ ((field_count l ≡ n) × ((i : ℕ) → 1 ≤ i → i ≤ n → field_at i l ≡ f i))
fields-exactly n f l h =
    let m : n - 1 + 1 ≡ n = omega arith in
    rw m at (fields-both (n - 1) f l)

pub fields-of : (n : ℕ) (l : List ℕ) → 1 ≤ n → field_count l ≡ n → Fields n (λ i. field_at i l) l
fields-of n l h e = (fields-exactly n (λ i. field_at i l) l h).1 (e, λ i p q. refl)
