-- Laws of the walk over a line's bytes.
--     walk-out, walk-in         one turn of the walk: the byte at a place is left out, or it stays
--     next_small                a byte goes on by at most one field
--     walked-fields             the walk gives the fields of a line as they are written
--     walked-short, fields-short     it gives no more bytes than there are
--     put_byte                  one byte more is put
-- Assumes nothing.
use mathlib.Core.Path.{◌≡◌, refl, sym, ap, ◌∙◌}
use mathlib.Core.Bool.{Bool, true, false, not, ◌&&◌}
use mathlib.Core.List.{List, [], ◌∷◌, ◌++◌, append-nil}
use Prim.Native.Nat.{ℕ, zero, suc, ◌+◌, ◌≤◌, ◌<◌}
use native.Mathlib.Nat.{add-zero, zero-add}
use native.Mathlib.Numerals.{add-one}
use native.Mathlib.Omega.{arith}
use borrow.Author.Tests.{not-true, not-false}
use lib.Dec.{eqb}
use lib.ListN.{length, drop, get_or, set}
use lib.Seq.{take-suc-set, drop-set-lt}
use Rattle.ground.proofs.Cases.{on_test}
use Rattle.ground.proofs.Walk.{here}
use Rattle.text.specs.Fields.{commas, field_length, first_field, field_at, joined}
use Rattle.text.proofs.FieldLaws.{commas-after, first_plain, first_rest, first_alone, field-first, field_past, joined-next, joined-ext}
use Rattle.pieces.specs.Inner.{Put}
use Rattle.pieces.proofs.Laws.{put_then}
use Rattle.rewrite_lines.specs.declared.LineSort.{LineSort}
use Rattle.rewrite_lines.specs.Lines.{is_number, field_text, fields_text}
use Rattle.rewrite_lines.specs.Inner.{is_left_out, next_field, walked}

-- one turn of the walk over l, at a place within it, where t says whether its byte is left out
module _ (sort : LineSort) (i : ℕ) (leads : Bool) (l : List ℕ) (at : ℕ) (h : at < length l) where
  pub walk-out : {t : Bool} → t ≡ is_left_out sort i leads (get_or l at 0) → not t ≡ false → walked sort i leads (drop at l) ≡ walked sort i leads (drop (at + 1) l)
  walk-out {t} e n = rw (here l at h, ← e, not-false t n)

  pub walk-in : {t : Bool} → t ≡ is_left_out sort i leads (get_or l at 0) → not t ≡ true
      → walked sort i leads (drop at l) ≡ get_or l at 0 ∷ walked sort (next_field i (get_or l at 0)) (eqb (get_or l at 0) 44) (drop (at + 1) l)
  walk-in {t} e n = rw (here l at h, ← e, not-true t n)

pub next_small : (i b : ℕ) → next_field i b ≤ i + 1
unfolding next_field
next_small i b = on_test (eqb b 44) (λ e. rw e (omega arith)) (λ e. rw e (omega arith))

-- a byte that is no comma goes on in its field
next-same : (i b : ℕ) → eqb b 44 ≡ false → next_field i b ≡ i
unfolding next_field
next-same i b e = rw e

-- what is left out: nothing after a byte that is no space, nothing but spaces, and these in a number alone
none_out : (sort : LineSort) (i b : ℕ) → is_left_out sort i false b ≡ false
unfolding is_left_out
none_out sort i b = refl

first_out : (sort : LineSort) (i b : ℕ) → is_left_out sort i true b ≡ eqb b 32 && is_number sort i
unfolding is_left_out
first_out sort i b = refl

-- a text without a comma stays where nothing is left out
stays : (sort : LineSort) (i : ℕ) (f r : List ℕ) → commas f ≡ 0 → walked sort i false (f ++ r) ≡ f ++ walked sort i false r
stays sort i [] r h = refl
stays sort i (b ∷ f) r h =
    on_test (eqb b 44)
    (λ e. let z : commas f + 1 ≡ 0 = rw e at h in absurd (omega arith))
    (λ e. rw (none_out sort i b, next-same i b e, e, stays sort i f r (rw e at h)))

none : (t : Bool) → t && false ≡ false
none true = refl
none false = refl

-- a field f and what follows it: the line's end, or a comma
field-walked : (sort : LineSort) (i : ℕ) (f r : List ℕ) → commas f ≡ 0 → walked sort i true r ≡ walked sort i false r
    → walked sort i true (f ++ r) ≡ field_text (is_number sort i) f ++ walked sort i false r
field-walked sort i [] r h e = on_test (is_number sort i) (λ t. rw t e) (λ t. rw t e)
field-walked sort i (b ∷ f) r h e =
    on_test (eqb b 44)
    (λ u. let z : commas f + 1 ≡ 0 = rw u at h in absurd (omega arith))
    (λ u.
    let plain : commas f ≡ 0 = rw u at h in
    let on : walked sort (next_field i b) (eqb b 44) (f ++ r) ≡ f ++ walked sort i false r = rw (next-same i b u, u) (stays sort i f r plain) in
    on_test (is_number sort i)
    (λ t. on_test (eqb b 32)
    (λ s. rw (first_out sort i b, s, t) (rw t at (field-walked sort i f r plain e)))
    (λ s. rw (first_out sort i b, s, t, on)))
    (λ t. rw (first_out sort i b, t, none (eqb b 32), on)))

-- at a comma
at-comma : (sort : LineSort) (i : ℕ) (leads : Bool) (r : List ℕ) → walked sort i leads (44 ∷ r) ≡ 44 ∷ walked sort (i + 1) true r
unfolding is_left_out next_field
at-comma sort i true r = refl
at-comma sort i false r = refl

field-comma : (sort : LineSort) (i : ℕ) (f r : List ℕ) → commas f ≡ 0
    → walked sort i true (f ++ 44 ∷ r) ≡ field_text (is_number sort i) f ++ 44 ∷ walked sort (i + 1) true r
field-comma sort i f r h =
    rw (at-comma sort i false r) at (field-walked sort i f (44 ∷ r) h (at-comma sort i true r ∙ sym (at-comma sort i false r)))

field_end : (sort : LineSort) (i : ℕ) (f : List ℕ) → commas f ≡ 0 → walked sort i true f ≡ field_text (is_number sort i) f
field_end sort i f h = simp append-nil at (field-walked sort i f [] h refl)

-- the fields that follow j fields
rest-fields : (sort : LineSort) (n j : ℕ) (x : List ℕ) → commas x ≡ n
    → walked sort (j + 1) true x ≡ joined (λ i. field_text (is_number sort (j + i + 1)) (field_at (i + 1) x)) n
unfolding joined
rest-fields sort zero j x h =
    rw (append-nil, add-zero, field-first (0 + 1) x (omega arith), first_alone x h) (field_end sort (j + 1) x h)
rest-fields sort (suc n) j x h =
    let m = drop (field_length x + 1) x in
    let k : 1 ≤ commas x = omega arith in
    let f : ℕ → List ℕ = λ i. field_text (is_number sort (j + i + 1)) (field_at (i + 1) x) in
    let g : ℕ → List ℕ = λ i. field_text (is_number sort (j + 1 + i + 1)) (field_at (i + 1) m) in
    let same : (i : ℕ) → i ≤ n → f (i + 1) ≡ g i
    = λ i q. let e : j + (i + 1) + 1 ≡ j + 1 + i + 1 = omega arith in rw (e, field_past i x) in
    let front : f 0 ≡ field_text (is_number sort (j + 1)) (first_field x) = rw (add-zero, field-first (0 + 1) x (omega arith)) in
    let rest : walked sort (j + 1 + 1) true m ≡ joined (λ i. f (i + 1)) n
    = rest-fields sort n (j + 1) m (omega (arith, commas-after x k)) ∙ sym (joined-ext (λ i. f (i + 1)) g n same) in
    ap (walked sort (j + 1) true) (sym (first_rest x k))
    ∙ field-comma sort (j + 1) (first_field x) m (first_plain x)
    ∙ rw (rest, ← front) (sym (joined-next f n))

pub walked-fields : (sort : LineSort) (x : List ℕ) → walked sort 1 true x ≡ fields_text sort x
unfolding fields_text
walked-fields sort x = simp zero-add at (rest-fields sort (commas x) 0 x refl)

pub walked-short : (sort : LineSort) (i : ℕ) (leads : Bool) (x : List ℕ) → length (walked sort i leads x) ≤ length x
walked-short sort i leads [] = omega arith
walked-short sort i leads (b ∷ x) =
    on_test (is_left_out sort i leads b)
    (λ e. rw e (omega (arith, walked-short sort i leads x)))
    (λ e. rw e (omega (arith, walked-short sort (next_field i b) (eqb b 44) x)))

pub fields-short : (sort : LineSort) (x : List ℕ) → length (fields_text sort x) ≤ length x
fields-short sort x = rw (← walked-fields sort x) (walked-short sort 1 true x)

pub put_byte : {a b x : List ℕ} {n m : ℕ} (v : ℕ) → Put a n x b m → m < length b → Put a n (x ++ v ∷ []) (set b m v) (m + 1)
put_byte {a} {b} {x} {n} {m} v p h =
    put_then p (record {
      end = omega arith;
      bytes = rw (add-one m) (take-suc-set b m v h);
      rest = drop-set-lt (m + 1) b m v (omega arith);
    })
