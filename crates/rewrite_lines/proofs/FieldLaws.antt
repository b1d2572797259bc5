-- Laws of a line as it is written: its fields, and that writing it again changes nothing.
--     bare-none, bare-again, bare-short     a field without its leading spaces has none, so that nothing more goes; it is no longer than it was
--     commas-text, count-text, field-text   the written line has as many fields, each the field of the line as it is written
--     fields-again                          writing it again changes nothing
--     bytes-text                            its bytes are bytes of a line
-- Assumes nothing.
use mathlib.Core.Path.{◌≡◌, refl, ap, ◌∙◌}
use mathlib.Core.Bool.{Bool, true, false, ◌&&◌}
use mathlib.Core.List.{List, [], ◌∷◌}
use Prim.Native.Nat.{ℕ, zero, suc, ◌+◌, ◌≤◌}
use native.Mathlib.Omega.{arith}
use lib.Dec.{eqb, leb}
use lib.ListN.{length, take, drop, length-drop}
use Rattle.ground.specs.Tables.{cat, every}
use Rattle.ground.proofs.Cases.{on_test}
use Rattle.ground.proofs.Every.{and_split, and-join, every_append, every-cat}
use Rattle.text.specs.Lines.{line_bytes}
use Rattle.text.specs.Fields.{commas, field_count, field_length, after_fields, field_at, joined}
use Rattle.text.proofs.FieldLaws.{first_plain, joined-count, joined_at, joined-ext, field-after}
use Rattle.numerals.specs.Counts.{leading_spaces}
use Rattle.rewrite_lines.specs.declared.LineSort.{LineSort}
use Rattle.rewrite_lines.specs.Lines.{is_number, bare, field_text, fields_text}

pub bare-none : (l : List ℕ) → leading_spaces (bare l) ≡ 0
bare-none [] = refl
bare-none (b ∷ l) = on_test (eqb b 32) (λ e. rw e (bare-none l)) (λ e. rw (e, e))

pub bare-again : (l : List ℕ) → bare (bare l) ≡ bare l
bare-again l = ap (λ (n : ℕ). drop n (bare l)) (bare-none l)

pub bare-short : (l : List ℕ) → length (bare l) ≤ length l
bare-short l = rw length-drop (omega arith)

-- what is left out has no comma, and what stays none where there was none
drop-commas : (k : ℕ) (l : List ℕ) → commas l ≡ 0 → commas (drop k l) ≡ 0
drop-commas zero l h = h
drop-commas (suc k) [] h = refl
drop-commas (suc k) (b ∷ l) h =
    on_test (eqb b 44)
    (λ e. let z : commas l + 1 ≡ 0 = rw e at h in absurd (omega arith))
    (λ e. drop-commas k l (rw e at h))

drop-every : (p : ℕ → Bool) (k : ℕ) (l : List ℕ) → every p l ≡ true → every p (drop k l) ≡ true
drop-every p zero l h = h
drop-every p (suc k) [] h = refl
drop-every p (suc k) (b ∷ l) h = drop-every p k l (and_split (p b) (every p l) h).1

take-every : (p : ℕ → Bool) (k : ℕ) (l : List ℕ) → every p l ≡ true → every p (take k l) ≡ true
take-every p zero l h = refl
take-every p (suc k) [] h = refl
take-every p (suc k) (b ∷ l) h =
    let s = and_split (p b) (every p l) h in
    and-join (p b) (every p (take k l)) s.0 (take-every p k l s.1)

after-every : (p : ℕ → Bool) (i : ℕ) (l : List ℕ) → every p l ≡ true → every p (after_fields i l) ≡ true
unfolding after_fields
after-every p zero l h = h
after-every p (suc i) l h = after-every p i (drop (field_length l + 1) l) (drop-every p (field_length l + 1) l h)

-- a field as it is written
text-plain : (t : Bool) (f : List ℕ) → commas f ≡ 0 → commas (field_text t f) ≡ 0
text-plain true f h = drop-commas (leading_spaces f) f h
text-plain false f h = h

text-again : (t : Bool) (f : List ℕ) → field_text t (field_text t f) ≡ field_text t f
text-again true f = bare-again f
text-again false f = refl

text-bytes : (t : Bool) (f : List ℕ) → line_bytes f ≡ true → line_bytes (field_text t f) ≡ true
text-bytes true f h = drop-every (λ b. leb 32 b && leb b 126) (leading_spaces f) f h
text-bytes false f h = h

-- the fields of a line x as they are written
module _ (sort : LineSort) (x : List ℕ) where
  abbrev text : ℕ → List ℕ
  text i = field_text (is_number sort (i + 1)) (field_at (i + 1) x)

  plain : (i : ℕ) → commas (text i) ≡ 0
  plain i = text-plain (is_number sort (i + 1)) (field_at (i + 1) x) (rw field-after (first_plain (after_fields i x)))

  pub commas-text : commas (fields_text sort x) ≡ commas x
  unfolding fields_text field_count
  commas-text = let c = joined-count text (commas x) (λ j h. plain j) in omega arith

  pub count-text : field_count (fields_text sort x) ≡ field_count x
  unfolding field_count
  count-text = rw commas-text

  pub field-text : (i : ℕ) → i ≤ commas x → field_at (i + 1) (fields_text sort x) ≡ field_text (is_number sort (i + 1)) (field_at (i + 1) x)
  unfolding fields_text
  field-text i h = joined_at text (commas x) i (λ j q. plain j) h

  pub fields-again : fields_text sort (fields_text sort x) ≡ fields_text sort x
  unfolding fields_text
  fields-again =
      ap (joined (λ i. field_text (is_number sort (i + 1)) (field_at (i + 1) (fields_text sort x)))) commas-text
      ∙ joined-ext (λ i. field_text (is_number sort (i + 1)) (field_at (i + 1) (fields_text sort x))) text (commas x)
      (λ i h. ap (field_text (is_number sort (i + 1))) (field-text i h) ∙ text-again (is_number sort (i + 1)) (field_at (i + 1) x))

  pub bytes-text : line_bytes x ≡ true → line_bytes (fields_text sort x) ≡ true
  unfolding fields_text joined
  bytes-text h =
      let p : ℕ → Bool = λ b. leb 32 b && leb b 126 in
      let each : (i : ℕ) → line_bytes (text i) ≡ true
      = λ i. text-bytes (is_number sort (i + 1)) (field_at (i + 1) x) (rw field-after (take-every p (field_length (after_fields i x)) (after_fields i x) (after-every p i x h))) in
      every_append p (text 0) (cat (λ i. 44 ∷ text (i + 1)) (commas x)) (each 0)
      (every-cat p (λ i. 44 ∷ text (i + 1)) (commas x) (λ i q. each (i + 1)))
