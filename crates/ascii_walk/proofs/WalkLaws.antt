-- Laws of a walk over a text row.
--     Clean                                     no comma, and only bytes that a line may have
--     count-clean, whole-clean, fine-clean      what reads as a number, and a field that is fine, is so
--     status-fine                               a status that is read where it stands is fine there
--     status-byte                               the byte of a status, as an order
--     empty-there                               an empty field is a sample, where the text is not marked
--     number-there                              so is a field that is read as a number, by what it says
--     next-time, next-sample, next-status       so it is the next field
--     passed_on                                 one field more is passed
--     passed-status, passed-four                so are one status more, and four
--     row_walked                                a number, fields that were passed and CR LF are a row
-- Assumes nothing.
use mathlib.Core.Path.{◌≡◌, refl, sym, ◌∙◌}
use mathlib.Core.Bool.{Bool, true, false}
use mathlib.Core.Logic.{inl, inr, ⊎_elim}
use mathlib.Core.List.{List, [], ◌∷◌, ◌++◌}
use Prim.Native.Nat.{ℕ, zero, suc, ◌+◌, ◌-◌, ◌*◌, ◌≤◌, ◌<◌}
use native.Mathlib.Nat.{add-zero, zero-add, sub-zero}
use native.Mathlib.Numerals.{add-one}
use native.Mathlib.Omega.{arith}
use borrow.Author.Tests.{eq-eqb, eqb-true, ne_eqb, le-leb, leb-true, leb-false}
use lib.Dec.{eqb, leb}
use lib.IntN.{ℤ, pos}
use lib.ListN.{length, get_or, take, drop, take-append-drop}
use lib.Seq.{take-append_seam, drop-append-add, length-take-le}
use Rattle.ground.specs.Said.{says}
use Rattle.ground.specs.Tables.{part}
use Rattle.ground.proofs.Cases.{on_test, lt-or-ge}
use Rattle.ground.proofs.Every.{every_append}
use Rattle.ground.proofs.Filled.{parts_join}
use Rattle.ground.proofs.Parts.{part_none, part-here}
use Rattle.ground.proofs.Walk.{here}
use Rattle.text.specs.Lines.{line_bytes}
use Rattle.text.specs.Fields.{commas, field_count, field_length, first_field, after_fields}
use Rattle.text.proofs.FieldLaws.{commas-append, length_before, field-first}
use Rattle.text.proofs.LineLaws.{line-scanned}
use Rattle.std.proofs.Common.{None, Some}
use Rattle.numerals.specs.Counts.{length_in, is_digit, leading_spaces, digits_from, number_of, read_count}
use Rattle.numerals.specs.Wholes.{sign_length, has_minus, signed_number, read_whole}
use Rattle.numerals.specs.Inner.{CountThere, WholeThere}
use Rattle.numerals.proofs.CountLaws.{digit-bounds}
use Rattle.numerals.proofs.WholeLaws.{from-count, in-length}
use Rattle.model.specs.declared.Layout.{Layout}
use Rattle.model.specs.Samples.{missing, marked}
use Rattle.ascii_row.specs.Fields.{is_status}
use Rattle.ascii_row.specs.Rows.{fields_of, field_fine, check_fields, check_number, check_line}
use Rattle.ascii_walk.specs.Inner.{FieldThere, Next, TimeThere, SampleThere, StatusThere, FourThere, Passed, RowThere}
use Rattle.ascii_row.proofs.FieldLaws.{MissingTold, missing-told, told-missing, SampleTold, time-read, sample-read, sample-fine}
use Rattle.ascii_row.proofs.LineLaws.{of-time, of-sample, of-status}

pub record Clean (f : List ℕ) : Type 0 where
  pub plain : commas f ≡ 0
  pub bytes : line_bytes f ≡ true

none : Clean []
none = record { plain = refl; bytes = refl }

more : (b : ℕ) (l : List ℕ) → 32 ≤ b → b ≤ 126 → (b ≡ 44 → ⊥) → Clean l → Clean (b ∷ l)
more b l h k e c = record {
  plain = rw (ne_eqb b 44 e) c.plain;
  bytes = rw (le-leb 32 b h, le-leb b 126 k) c.bytes;
}

-- a wrong form is no number
no-count : (l : List ℕ) (v : ℕ) → None ≡ Some v → Clean l
no-count l v e = record { plain = cc; bytes = cc }

digits-clean : (l : List ℕ) (v w : ℕ) → digits_from v l ≡ Some w → Clean l
digits-clean [] v w e = none
digits-clean (b ∷ l) v w e =
    on_test (is_digit b)
    (λ t. let d = digit-bounds b t in more b l (omega arith) (omega arith) (λ q. omega arith) (digits-clean l (10 * v + (b - 48)) w (rw t at e)))
    (λ t. no-count (b ∷ l) w (rw t at e))

number-clean : (l : List ℕ) (v : ℕ) → number_of l ≡ Some v → Clean l
unfolding number_of
number-clean l v e =
    on_test (eqb (length l) 0)
    (λ t. no-count l v (rw t at e))
    (λ t. digits-clean l 0 v (rw t at e))

spaces-clean : (l : List ℕ) → Clean (drop (leading_spaces l) l) → Clean l
spaces-clean [] c = c
spaces-clean (b ∷ l) c =
    on_test (eqb b 32)
    (λ t. let q = eqb-true b 32 t in more b l (omega arith) (omega arith) (λ e. omega arith) (spaces-clean l (rw t at c)))
    (λ t. rw t at c)

pub count-clean : (least most : ℕ) (l : List ℕ) (v : ℕ) → read_count least most l ≡ Some v → Clean l
unfolding read_count
count-clean least most l v e =
    on_test (length_in least most l)
    (λ t. spaces-clean l (number-clean (drop (leading_spaces l) l) v (rw t at e)))
    (λ t. no-count l v (rw t at e))

sign-clean : (l : List ℕ) → Clean (drop (sign_length l) l) → Clean l
unfolding sign_length
sign-clean [] c = none
sign-clean (b ∷ l) c =
    on_test (eqb b 45) (λ t. let q = eqb-true b 45 t in more b l (omega arith) (omega arith) (λ e. omega arith) (rw t at c)) (λ t.
    on_test (eqb b 43) (λ u. let q = eqb-true b 43 u in more b l (omega arith) (omega arith) (λ e. omega arith) (rw (t, u) at c)) (λ u. rw (t, u) at c))

pub whole-clean : (l : List ℕ) (z : ℤ) → read_whole l ≡ Some z → Clean l
unfolding read_whole signed_number
whole-clean l z e =
    let m = drop (leading_spaces l) l in
    let c = from-count (number_of (drop (sign_length m) m)) (has_minus m) z (in-length (length_in 1 13 l) _ z e) in
    spaces-clean l (sign-clean m (number-clean (drop (sign_length m) m) c.0 c.1))

status-clean : (f : List ℕ) → is_status f ≡ true → Clean f
unfolding is_status
status-clean [] e = none
status-clean (b ∷ []) e =
    on_test (eqb b 48)
    (λ t. let q = eqb-true b 48 t in more b [] (omega arith) (omega arith) (λ r. omega arith) none)
    (λ t. let q = eqb-true b 49 (rw t at e) in more b [] (omega arith) (omega arith) (λ r. omega arith) none)
status-clean (b ∷ c ∷ f) e = record { plain = cc; bytes = cc }

-- a sample that is missing is no character, or a number
missing-clean : (l : Layout) (f : List ℕ) → MissingTold l f → Clean f
missing-clean l f (inl (t, e)) = rw e none
missing-clean l f (inr (t, e)) = whole-clean f (pos 99999) e

sample-clean : (l : Layout) (f : List ℕ) (z : ℤ) → SampleTold l f z → Clean f
sample-clean l f z (inl (e, m)) = missing-clean l f (missing-told l f m)
sample-clean l f z (inr (e, h)) = whole-clean f z e

pub fine-clean : (l : Layout) (k : ℕ) (f : List ℕ) → field_fine l k f ≡ true → Clean f
unfolding field_fine
fine-clean l k f e =
    on_test (eqb k 2) (λ t. count-clean 1 13 f _ (time-read f (rw t at e))) (λ t.
    on_test (leb k (2 + l.analogs)) (λ u. sample-clean l f _ (sample-read l f (rw (t, u) at e))) (λ u. status-clean f (rw (t, u) at e)))

pub status-fine : (s : List ℕ) (i : ℕ) → i + 2 < length s → is_status (part (i + 1) (i + 2) s) ≡ is_status (get_or s (i + 1) 0 ∷ [])
status-fine s i w =
    let q : i + 1 + 1 ≡ i + 2 = omega arith in
    rw (part-here 0 (i + 1) (i + 2) s (omega arith) (omega arith), q, part_none (i + 2) s)

pub status-byte : (b : ℕ) → 48 ≤ b → leb b 49 ≡ is_status (b ∷ [])
unfolding is_status
status-byte b h =
    ⊎_elim
    (λ (l : b < 49). rw (eq-eqb b 48 (omega arith), le-leb b 49 (omega arith)))
    (λ (l : 49 ≤ b).
    on_test (leb b 49)
    (λ t. let k = leb-true b 49 t in rw (t, ne_eqb b 48 (λ e. omega arith), eq-eqb b 49 (omega arith)))
    (λ t. let k = leb-false b 49 t in rw (t, ne_eqb b 48 (λ e. omega arith), ne_eqb b 49 (λ e. omega arith))))
    (lt-or-ge b 49)

-- an empty sample, which takes its comma alone
pub empty-there : (l : Layout) (s : List ℕ) (i j : ℕ) → marked l ≡ false → get_or s i 0 ≡ 44 → j ≡ i + 1 → j < length s → SampleThere l s i j
empty-there l s i j t c e w = record {
  comma = c;
  past = omega arith;
  within = w;
  fine = rw (e, part_none (i + 1) s) (sample-fine l [] missing (inl (refl, told-missing l [] (inl (t, refl)))));
}

-- a field that is read as a number, and what it says
pub number-there : (l : Layout) (s : List ℕ) (i j : ℕ) (z y : ℤ) → get_or s i 0 ≡ 44 → WholeThere s (i + 1) j z → SampleTold l (part (i + 1) j s) y → SampleThere l s i j
number-there l s i j z y c w t = record {
  comma = c;
  past = omega (arith, w.past);
  within = w.within;
  fine = sample-fine l (part (i + 1) j s) y t;
}

-- a field of which one test holds, where another says the same of it
as-field : (t u : List ℕ → Bool) (s : List ℕ) (i j : ℕ) → u (part (i + 1) j s) ≡ t (part (i + 1) j s) → FieldThere t s i j → FieldThere u s i j
as-field t u s i j e f = record { comma = f.comma; past = f.past; within = f.within; fine = e ∙ f.fine }

module _ (l : Layout) (s : List ℕ) (i j : ℕ) where
  pub next-time : TimeThere s i j → Next l s 2 i j
  next-time = as-field _ _ s i j (of-time l _)

  pub next-sample : (k : ℕ) → k < l.analogs → SampleThere l s i j → Next l s (2 + k + 1) i j
  next-sample k h = let q : 2 + k + 1 ≡ 3 + k = omega arith in as-field _ _ s i j (rw q (of-sample l _ k h))

  pub next-status : (k : ℕ) → FieldThere is_status s i j → Next l s (2 + l.analogs + k + 1) i j
  next-status k = let q : 2 + l.analogs + k + 1 ≡ 3 + l.analogs + k = omega arith in as-field _ _ s i j (rw q (of-status l _ k))

-- y follows field k on its line: m more fields, each after a comma and fine
record Tail (l : Layout) (n k m : ℕ) (y : List ℕ) : Type 0 where
  apart : field_length y ≡ 0
  count : commas y ≡ m
  bytes : line_bytes y ≡ true
  fine : check_fields l n (drop 1 y) (k + 1) m ≡ says tt

-- a field before such a rest is the first
module _ (f y : List ℕ) (c : Clean f) (h : field_length y ≡ 0) where
  first_of : first_field (f ++ y) ≡ f
  first_of = rw (length_before f y c.plain, h, add-zero, take-append_seam)

  rest-of : drop (field_length (f ++ y) + 1) (f ++ y) ≡ drop 1 y
  rest-of = rw (length_before f y c.plain, h, add-zero, drop-append-add)

tail_none : (l : Layout) (n k : ℕ) → Tail l n k 0 []
unfolding check_fields
tail_none l n k = record { apart = refl; count = refl; bytes = refl; fine = refl }

tail-next : (l : Layout) (n k m : ℕ) (f y : List ℕ) → field_fine l (k + 1) f ≡ true → Tail l n (k + 1) m y → Tail l n k (suc m) (44 ∷ (f ++ y))
unfolding check_fields
tail-next l n k m f y e t =
    let c = fine-clean l (k + 1) f e in record {
      apart = refl;
      count = rw (commas-append f y, c.plain, t.count) (omega arith);
      bytes = every_append _ f y c.bytes t.bytes;
      fine = rw (first_of f y c t.apart, e, rest-of f y c t.apart) t.fine;
    }

tail-passed : (l : Layout) (n : ℕ) (s : List ℕ) (e k i m j q : ℕ) → Passed l s k i m j → j ≤ e → e ≤ length s → Tail l n (k + m) q (part j e s)
    → (i ≤ e) × Tail l n k (m + q) (part i e s)
tail-passed l n s e k i zero j q p h w t = rw (p, zero-add q) (h, rw (add-zero k) at t)
tail-passed l n s e k i (suc m) j q (x, p, d) h w t =
    let r : part x e s ≡ 44 ∷ (part (x + 1) j s ++ part j e s)
    = part-here 0 x e s (omega (arith, d.past)) w ∙ rw (d.comma, ← parts_join (x + 1) j e s (omega (arith, d.past)) h) in
    let z : k + suc m ≡ k + m + 1 = omega arith in
    let y : m + suc q ≡ suc m + q = omega arith in
    rw y at (tail-passed l n s e k i m x (suc q) p (omega (arith, d.past)) w (rw r (tail-next l n (k + m) q (part (x + 1) j s) (part j e s) d.fine (rw z at t))))

line-there : (l : Layout) (n : ℕ) (f y : List ℕ) → read_count 1 10 f ≡ Some n → Tail l n 1 (1 + l.analogs + l.statuses) y
    → check_line l n (f ++ y) ≡ says tt
unfolding check_line check_number field_count after_fields
line-there l n f y e t =
    let c = count-clean 1 10 f n e in
    let q : commas (f ++ y) + 1 ≡ fields_of l = omega (arith, commas-append f y, c.plain, t.count) in
    rw (eq-eqb _ _ q, field-first 1 (f ++ y) (omega arith), first_of f y c t.apart, e, eq-eqb n n refl, rest-of f y c t.apart) t.fine

ended-there : (s : List ℕ) (e : ℕ) → e + 1 < length s → get_or s e 0 ≡ 13 → get_or s (e + 1) 0 ≡ 10 → take e s ++ 13 ∷ 10 ∷ drop (e + 1 + 1) s ≡ s
ended-there s e w cr lf = rw (← cr, ← lf, ← here s (e + 1) w, ← here s e (omega arith), take-append-drop)

pub passed_on : (l : Layout) (s : List ℕ) (k i m x j : ℕ) → Passed l s k i m x → Next l s (k + m + 1) x j → Passed l s k i (m + 1) j
passed_on l s k i m x j p d = rw add-one (x, p, d)

-- statuses take two bytes each
module _ (l : Layout) (s : List ℕ) (at : ℕ) where
  pub passed-status : (k : ℕ) → Passed l s (2 + l.analogs) at k (at + 2 * k) → StatusThere s (at + 2 * k) → Passed l s (2 + l.analogs) at (k + 1) (at + 2 * (k + 1))
  passed-status k p t =
      let q : at + 2 * (k + 1) ≡ at + 2 * k + 2 = omega arith in
      rw q (passed_on l s (2 + l.analogs) at k (at + 2 * k) (at + 2 * k + 2) p (next-status l s (at + 2 * k) (at + 2 * k + 2) k t))

  pub passed-four : (k : ℕ) → Passed l s (2 + l.analogs) at k (at + 2 * k) → FourThere s (at + 2 * k) → Passed l s (2 + l.analogs) at (k + 4) (at + 2 * (k + 4))
  passed-four k p t =
      let e : at + 2 * k + 2 ≡ at + 2 * (k + 1) = omega arith in
      let f : at + 2 * k + 4 ≡ at + 2 * (k + 1 + 1) = omega arith in
      let g : at + 2 * k + 6 ≡ at + 2 * (k + 1 + 1 + 1) = omega arith in
      let h : k + 1 + 1 + 1 + 1 ≡ k + 4 = omega arith in
      let x = passed-status k p t.one in
      let y = passed-status (k + 1) x (rw e at t.two) in
      let z = passed-status (k + 1 + 1) y (rw f at t.three) in
      rw h at (passed-status (k + 1 + 1 + 1) z (rw g at t.four))

pub row_walked : (l : Layout) (n : ℕ) (s : List ℕ) (b t r e : ℕ) → CountThere 10 s 0 b n → Next l s 2 b t
    → Passed l s 2 t l.analogs r → Passed l s (2 + l.analogs) r l.statuses e
    → e + 1 < length s → e ≤ 1880 → get_or s e 0 ≡ 13 → get_or s (e + 1) 0 ≡ 10 → RowThere l n s (e + 2)
row_walked l n s b t r e number time samples statuses w m cr lf =
    let a = l.analogs in
    let k : e ≤ length s = omega arith in
    let u : Tail l n (2 + a + l.statuses) 0 (part e e s) = rw (part_none e s) (tail_none l n (2 + a + l.statuses)) in
    let v = tail-passed l n s e (2 + a) r l.statuses e 0 statuses (omega arith) k u in
    let x = tail-passed l n s e 2 t a r (l.statuses + 0) samples v.0 k v.1 in
    let y = tail-passed l n s e 1 b 1 t (a + (l.statuses + 0)) (b, refl, time) x.0 k x.1 in
    let q : 1 + (a + (l.statuses + 0)) ≡ 1 + a + l.statuses = omega arith in
    let line : take e s ≡ part 0 b s ++ part b e s = sym (rw (sub-zero e) at (parts_join 0 b e s (omega arith) y.0)) in
    let bytes : line_bytes (take e s) ≡ true
    = rw line (every_append _ (part 0 b s) (part b e s) (count-clean 1 10 (part 0 b s) n number.reads).bytes y.1.bytes) in
    let z : e + 2 - 2 ≡ e = omega arith in
    record {
      scanned = rw z (rw (ended-there s e w cr lf, length-take-le e s k) at (line-scanned 1880 (take e s) (drop (e + 1 + 1) s) bytes (rw (length-take-le e s k) m)));
      fine = rw (z, line) (line-there l n (part 0 b s) (part b e s) number.reads (rw q at y.1));
    }
