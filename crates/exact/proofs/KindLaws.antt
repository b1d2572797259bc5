-- The kind's word, exactly.
--     small_is                  a capital letter as a small one
--     word-to, word-from        a word in any case
--     word-kind, kind-word      one of the words is that of its kind, and of no other
--     kind-exactly              a field is read as the kind k exactly when it is the word of k
--     kind-form, kind-range     a wrong length, and a word of no kind
--     has-exactly               an edition has a kind, unless it is 1999 and the kind binary32
-- Assumes nothing.
use Rattle.std.specs.Prelude.{if◌then◌else◌}
use mathlib.Core.Path.{◌≡◌, refl, sym, ap, subst, ◌∙◌}
use mathlib.Core.Logic.{◌↔◌, ◌⊎◌, inl, inr}
use mathlib.Core.Bool.{Bool, true}
use mathlib.Core.List.{List, [], ◌∷◌}
use Prim.Native.Nat.{ℕ, suc, ◌+◌}
use native.Mathlib.Omega.{arith}
use borrow.Author.Tests.{eq-eqb, eqb-true, ltb-true, ltb-false, lt-leb, le-leb}
use lib.Dec.{eqb, ltb}
use lib.ListN.{length}
use Rattle.ground.specs.Quoted.{quoted}
use Rattle.ground.proofs.Cases.{on_test, clash}
use Rattle.numerals.specs.Counts.{length_in}
use Rattle.numerals.proofs.CountLaws.{length-bounds, length-is}
use Rattle.model.specs.declared.Kind.{Kind}
use Rattle.model.specs.declared.Kind.TheVariants.{Ascii, Binary, Binary32}
use Rattle.model.specs.declared.Edition.{Edition}
use Rattle.model.specs.declared.Edition.TheVariants.{Y2013, Y1999}
use Rattle.model.specs.Editions.{has_kind}
use Rattle.std.proofs.Common.{Err, Ok}
use Rattle.numerals.specs.declared.FieldError.TheVariants.{Form, Range}
use Rattle.fields.specs.Fields.{small, same_word, read_kind}
use Rattle.fields.proofs.Laws.{other_length}
use Rattle.paper.specs.Fields.{TextField, is_between, lowered, KindWord}
use Rattle.exact.proofs.AnswerLaws.{Reads, value-told, form-told, range_none}

small_is : (b : ℕ) → small b ≡ (if is_between 65 90 b then b + 32 else b)
unfolding small
small_is b =
    on_test (ltb b 65)
    (λ t. rw (t, lt-leb 65 b (ltb-true b 65 t)))
    (λ t. on_test (ltb 90 b)
    (λ u. rw (t, u, le-leb 65 b (ltb-false b 65 t), lt-leb b 90 (ltb-true 90 b u)))
    (λ u. rw (t, u, le-leb 65 b (ltb-false b 65 t), le-leb b 90 (ltb-false 90 b u))))

word-to : (w l : List ℕ) → same_word w l ≡ true → lowered l ≡ w
word-to [] [] e = refl
word-to [] (b ∷ l) e = clash (cc)
word-to (a ∷ w) [] e = clash (cc)
word-to (a ∷ w) (b ∷ l) e =
    on_test (eqb (small b) a)
    (λ t. ap (λ (c : ℕ). c ∷ lowered l) (sym (small_is b) ∙ eqb-true (small b) a t) ∙ ap (◌∷◌ a) (word-to w l (rw (same_word, t) at e)))
    (λ t. let q = rw (same_word, t) at e in clash (cc))

word-lowered : (l : List ℕ) → same_word (lowered l) l ≡ true
word-lowered [] = refl
word-lowered (b ∷ l) = rw (same_word, eq-eqb (small b) (if is_between 65 90 b then b + 32 else b) (small_is b)) (word-lowered l)

word-from : (w l : List ℕ) → lowered l ≡ w → same_word w l ≡ true
word-from w l e = rw (← e) (word-lowered l)

lowered_long : (l : List ℕ) → length (lowered l) ≡ length l
lowered_long [] = refl
lowered_long (b ∷ l) = ap suc (lowered_long l)

module _ (f : List ℕ) where
  -- it is one of the words
  abbrev is_word : Bool
  is_word = if same_word (quoted "ascii") f then true else if same_word (quoted "binary") f then true else same_word (quoted "binary32") f

  -- of this kind
  abbrev word_kind : Kind
  word_kind = if same_word (quoted "ascii") f then Ascii else if same_word (quoted "binary") f then Binary else Binary32

  word-kind : is_word ≡ true → KindWord word_kind f
  word-kind e =
      on_test (same_word (quoted "ascii") f) (λ t. rw t (word-to (quoted "ascii") f t)) (λ t.
      on_test (same_word (quoted "binary") f) (λ u. rw (t, u) (word-to (quoted "binary") f u)) (λ u.
      rw (t, u) (word-to (quoted "binary32") f (rw (t, u) at e))))

  kind-word : (k : Kind) → KindWord k f → TextField 5 8 f × (is_word ≡ true) × (word_kind ≡ k)
  kind-word Ascii w =
      let n : 5 ≡ length f = sym (ap length w) ∙ lowered_long f in
      let t = word-from (quoted "ascii") f w in
      (record { long = omega arith; short = omega arith }, rw t, rw t)
  kind-word Binary w =
      let n : 6 ≡ length f = sym (ap length w) ∙ lowered_long f in
      let t = other_length (quoted "ascii") f (λ e. omega arith) in
      let u = word-from (quoted "binary") f w in
      (record { long = omega arith; short = omega arith }, rw (t, u), rw (t, u))
  kind-word Binary32 w =
      let n : 8 ≡ length f = sym (ap length w) ∙ lowered_long f in
      let t = other_length (quoted "ascii") f (λ e. omega arith) in
      let u = other_length (quoted "binary") f (λ e. omega arith) in
      (record { long = omega arith; short = omega arith }, rw (t, u) (word-from (quoted "binary32") f w), rw (t, u))

  kind-said : TextField 5 8 f → read_kind f ≡ (if is_word then Ok word_kind else Err Range)
  unfolding read_kind
  kind-said h =
      rw (length-is 5 8 f h.long h.short)
      (on_test (same_word (quoted "ascii") f) (λ t. rw t) (λ t.
      on_test (same_word (quoted "binary") f) (λ u. rw (t, u)) (λ u.
      on_test (same_word (quoted "binary32") f) (λ v. rw (t, u, v)) (λ v. rw (t, u, v)))))

  kind-cases : (read_kind f ≡ Err Form) ⊎ TextField 5 8 f
  unfolding read_kind
  kind-cases =
      on_test (length_in 5 8 f)
      (λ t. let b = length-bounds 5 8 f t in inr (record { long = b.0; short = b.1 }))
      (λ t. inl (rw t))

  kind-reads : Reads (read_kind f) (TextField 5 8 f) (λ a. word_kind) (λ a. is_word ≡ true)
  kind-reads = record { test = λ a. is_word; fair = λ a. (λ e. e, λ e. e); told = kind-said; cases = kind-cases }

  pub kind-exactly : (k : Kind) → read_kind f ≡ Ok k ↔ KindWord k f
  kind-exactly k =
      let w = value-told kind-reads k in
      (λ e. let (a, t, q) = w.0 e in subst (λ (x : Kind). KindWord x f) q (word-kind t), λ h. w.1 (kind-word k h))

  pub kind-form : read_kind f ≡ Err Form ↔ (TextField 5 8 f → ⊥)
  kind-form = form-told kind-reads

  pub kind-range : read_kind f ≡ Err Range ↔ (TextField 5 8 f × ((k : Kind) → KindWord k f → ⊥))
  kind-range = range_none kind-reads (λ k. KindWord k f) kind-exactly

pub has-exactly : (e : Edition) (k : Kind) → has_kind e k ≡ true ↔ (e ≡ Y1999 → k ≡ Binary32 → ⊥)
unfolding has_kind
has-exactly Y2013 k = (λ h q p. clash (cc), λ h. refl)
has-exactly Y1999 Ascii = (λ h q p. clash (cc), λ h. refl)
has-exactly Y1999 Binary = (λ h q p. clash (cc), λ h. refl)
has-exactly Y1999 Binary32 = (λ h. clash (cc), λ h. absurd (h refl refl))
