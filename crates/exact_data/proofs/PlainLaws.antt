-- Plain texts, exactly.
--     plain-count-exactly, plain-whole-exactly, plain-sample-exactly     plain counts, plain whole numbers and plain samples, by their characters
--     line_plain                   a line that is written is plain
--     plain-written                a plain text with given rows is what is written of them
--     plain-there                  and what is written is one
-- Assumes nothing.
use Rattle.std.specs.Prelude.{if◌then◌else◌}
use mathlib.Core.Path.{◌≡◌, refl, sym, ap, subst, ◌∙◌}
use mathlib.Core.Logic.{◌↔◌, inl, inr}
use mathlib.Core.Bool.{true, false, not, ◌||◌}
use mathlib.Core.List.{List, [], ◌∷◌, ◌++◌}
use Prim.Native.Nat.{ℕ, zero, suc, ◌+◌, ◌≤◌}
use native.Mathlib.Omega.{arith}
use borrow.Author.Tests.{eq-eqb, ne_eqb, eqb-true, eqb-false, leb-true}
use lib.Dec.{eqb, leb}
use lib.IntN.{ℤ, pos}
use lib.ListN.{length, get_or}
use Rattle.ground.specs.Quoted.{quoted}
use Rattle.ground.specs.Tables.{every}
use Rattle.ground.proofs.Cases.{on_test, clash}
use Rattle.ground.proofs.Every.{and_split, and-join}
use Rattle.ground.proofs.Tables.{cat-ext}
use Rattle.ground.proofs.Walk.{done}
use Rattle.text.specs.Fields.{field_at}
use Rattle.numerals.specs.Counts.{is_digit}
use Rattle.numerals.specs.Decimals.{plain, is_plain_count, is_plain}
use Rattle.numerals.proofs.PlainLaws.{decimal-plain}
use Rattle.numerals.proofs.WholeLaws as numbers
use Rattle.model.specs.declared.Kind.{Kind}
use Rattle.model.specs.declared.Kind.TheVariants.{Ascii, Binary, Binary32}
use Rattle.model.specs.declared.Edition.{Edition}
use Rattle.model.specs.declared.Edition.TheVariants.{Y2013, Y1999}
use Rattle.model.specs.declared.Layout.{Layout}
use Rattle.model.specs.declared.Row.{Row}
use Rattle.model.specs.Samples.{is_missing, marked_in, marked}
use Rattle.ascii_row.specs.Rows.{fields_of}
use Rattle.ascii_row.proofs.LineLaws.{line-told}
use Rattle.ascii_plain.specs.Rows.{sample_chars, line_of, text_of}
use Rattle.ascii_plain.specs.Inner.{is_plain_sample}
use Rattle.ascii_plain.proofs.LengthLaws.{missing-none, missing-mark, chars-missing, chars-there}
use Rattle.ascii_plain.proofs.LineLaws.{line-bytes-plain, fields-line, number-field, time-field, sample-field}
use Rattle.ascii_file.specs.Files.{mark, text_file}
use Rattle.ascii_file.proofs.PlainLaws.{line-again}
use Rattle.paper.specs.Fields.{is_between}
use Rattle.paper.specs.Lines.{ended}
use Rattle.paper.specs.Data.{TextLine, TextFile}
use Rattle.paper.specs.Written.{PlainCount, PlainWhole, PlainSample, PlainLine, PlainText}
use Rattle.exact.proofs.CountLaws.{digits-to, digits-from}
use Rattle.exact.proofs.CommaLaws.{fields-exactly, fields-of}
use Rattle.exact_data.proofs.TextLaws.{line-exactly}
use Rattle.exact_data.proofs.StandLaws.{same_lines}

count-to : (f : List ℕ) → is_plain_count f ≡ true → PlainCount f
unfolding is_plain_count
count-to [] e = record { number = clash (cc); needed = λ h q. clash (cc) }
count-to (b ∷ l) e =
    let s = and_split (every is_digit (b ∷ l)) (eqb (length l) 0 || not (eqb b 48)) e in
    record {
      number = record { some = omega arith; all = digits-from (b ∷ l) s.0 };
      needed = λ h q. let x : false ≡ true = rw (ne_eqb (length l) 0 (λ z. omega arith), eq-eqb b 48 q) at s.1 in clash (cc);
    }

count-from : (f : List ℕ) → PlainCount f → is_plain_count f ≡ true
unfolding is_plain_count
count-from [] p = absurd (omega (arith, p.number.some))
count-from (b ∷ l) p =
    and-join (every is_digit (b ∷ l)) (eqb (length l) 0 || not (eqb b 48)) (digits-to (b ∷ l) p.number.all)
    (on_test (eqb (length l) 0) (λ t. rw t) (λ t. let n = eqb-false (length l) 0 t in rw (t, ne_eqb b 48 (p.needed (some_more (length l) n)))))
  where
    some_more : (n : ℕ) → (n ≡ 0 → ⊥) → 2 ≤ suc n
    some_more zero h = absurd (h refl)
    some_more (suc n) h = omega arith

pub plain-count-exactly : (f : List ℕ) → is_plain_count f ≡ true ↔ PlainCount f
plain-count-exactly f = (count-to f, count-from f)

whole_to : (f : List ℕ) → is_plain f ≡ true → PlainWhole f
unfolding is_plain
whole_to [] e = clash (cc)
whole_to (b ∷ l) e =
    on_test (eqb b 45)
    (λ t.
    let s = and_split (is_plain_count l) (not (eqb (get_or l 0 0) 48)) (rw t at e) in
    inr (l, ap (λ (x : ℕ). x ∷ l) (eqb-true b 45 t), count-to l s.0, λ q. let x : false ≡ true = rw q at s.1 in clash (cc)))
    (λ t. inl (count-to (b ∷ l) (rw t at e)))

-- a plain count that is not 0 does not begin with 0
not-zero : (d : List ℕ) → PlainCount d → (d ≡ quoted "0" → ⊥) → not (eqb (get_or d 0 0) 48) ≡ true
not-zero [] p h = absurd (omega (arith, p.number.some))
not-zero (c ∷ []) p h = rw (ne_eqb c 48 (λ e. h (ap (λ (x : ℕ). x ∷ []) e)))
not-zero (c ∷ d ∷ l) p h = rw (ne_eqb c 48 (p.needed (omega arith)))

-- a digit is no minus
no_minus : (b : ℕ) (l : List ℕ) → PlainCount (b ∷ l) → eqb b 45 ≡ false
no_minus b l p =
    let s = and_split (is_between 48 57 b) (every (is_between 48 57) l) p.number.all in
    let low = leb-true 48 b (and_split (leb 48 b) (leb b 57) s.0).0 in
    ne_eqb b 45 (λ e. omega arith)

whole_from : (f : List ℕ) → PlainWhole f → is_plain f ≡ true
unfolding is_plain
whole_from [] (inl p) = absurd (omega (arith, p.number.some))
whole_from (b ∷ l) (inl p) = rw (no_minus b l p) (count-from (b ∷ l) p)
whole_from f (inr (d, e, p, h)) = rw e (and-join (is_plain_count d) (not (eqb (get_or d 0 0) 48)) (count-from d p) (not-zero d p h))

pub plain-whole-exactly : (f : List ℕ) → is_plain f ≡ true ↔ PlainWhole f
plain-whole-exactly f = (whole_to f, whole_from f)

-- a plain sample, by kind and edition
plain-to : (k : Kind) (e : Edition) (f : List ℕ) → k ≡ Ascii → (if marked_in k e then is_plain f else (eqb (length f) 0 || is_plain f)) ≡ true → PlainSample e f
plain-to Ascii Y2013 f t p = on_test (eqb (length f) 0) (λ n. inr (done f 0 (omega (arith, eqb-true (length f) 0 n)))) (λ n. inl (whole_to f (rw n at p)))
plain-to Ascii Y1999 f t p = whole_to f p
plain-to Binary e f t p = clash (cc)
plain-to Binary32 e f t p = clash (cc)

plain-from : (k : Kind) (e : Edition) (f : List ℕ) → k ≡ Ascii → PlainSample e f → (if marked_in k e then is_plain f else (eqb (length f) 0 || is_plain f)) ≡ true
plain-from Ascii Y2013 f t (inl p) = on_test (eqb (length f) 0) (λ n. rw n) (λ n. rw (n, whole_from f p))
plain-from Ascii Y2013 f t (inr n) = rw n
plain-from Ascii Y1999 f t p = whole_from f p
plain-from Binary e f t p = clash (cc)
plain-from Binary32 e f t p = clash (cc)

pub plain-sample-exactly : (l : Layout) (f : List ℕ) → l.kind ≡ Ascii → is_plain_sample l f ≡ true ↔ PlainSample l.edition f
unfolding is_plain_sample marked
plain-sample-exactly l f text = (plain-to l.kind l.edition f text, plain-from l.kind l.edition f text)

-- what is written of a sample is plain
plain-chars : (l : Layout) (z : ℤ) → is_plain_sample l (sample_chars l z) ≡ true
unfolding is_plain_sample
plain-chars l z =
    on_test (is_missing z)
    (λ t. rw (chars-missing l z t) (on_test (marked l) (λ m. rw (missing-mark l m, m) (numbers.plain-is (pos 99999))) (λ m. rw (missing-none l m, m))))
    (λ t. rw (chars-there l z t, numbers.plain-is z) (on_test (marked l) (λ m. rw m) (λ m. rw m (on_test (eqb (length (plain z)) 0) (λ n. rw n) (λ n. rw n)))))

chars-plain : (l : Layout) (z : ℤ) → l.kind ≡ Ascii → PlainSample l.edition (sample_chars l z)
chars-plain l z text = (plain-sample-exactly l (sample_chars l z) text).0 (plain-chars l z)

-- a line that is fine, and plain, is what is written of its row
line-is : (l : Layout) (n : ℕ) (r : Row) (line : List ℕ) → l.kind ≡ Ascii → TextLine l n r line → PlainLine l line → line_of l n r ≡ line
line-is l n r line text t p =
    let f = ((fields-exactly (fields_of l) p.f line (omega arith)).0 p.fields).1 in
    let x = (line-exactly l text n line r).1 t in
    ap (line_of l n) (sym x.1)
    ∙ line-again l n line (line-told l n line x.0)
    (rw (f 1 (omega arith) (omega arith)) (count-from (p.f 1) p.number))
    (rw (f 2 (omega arith) (omega arith)) (count-from (p.f 2) p.time))
    (λ i h. rw (f (3 + i) (omega arith) (omega arith)) ((plain-sample-exactly l (p.f (3 + i)) text).1 (p.samples i h)))

pub line_plain : (l : Layout) (n : ℕ) (r : Row) → l.kind ≡ Ascii → PlainLine l (line_of l n r)
line_plain l n r text =
    record {
      f = λ i. field_at i (line_of l n r);
      fields = fields-of (fields_of l) (line_of l n r) (omega arith) (fields-line l n r);
      number = rw (number-field l n r) (count-to _ (decimal-plain n));
      time = rw (time-field l n r) (count-to _ (decimal-plain r.time));
      samples = λ i h. rw (sample-field l n r i h) (chars-plain l (get_or r.samples i (pos 0)) text);
    }

pub plain-there : (l : Layout) (r : ℕ → Row) → l.kind ≡ Ascii → PlainText l (text_file l r)
unfolding text_of
plain-there l r text =
    record {
      line = λ i. line_of l (i + 1) (r i);
      whole = refl;
      each = λ i h. record { bytes = line-bytes-plain l (i + 1) (r i); is = line_plain l (i + 1) (r i) text };
    }

pub plain-written : (l : Layout) (r : ℕ → Row) (s : List ℕ) → l.kind ≡ Ascii → TextFile l r s → PlainText l s → s ≡ text_file l r
unfolding text_of
plain-written l r s text t p =
    let x = (same_lines p.line t.line l.rows mark t.end (λ i h. (p.each i h).bytes) (λ i h. (t.each i h).bytes) (sym p.whole ∙ t.whole)).0 in
    p.whole
    ∙ ap (λ (y : List ℕ). y ++ mark)
    (cat-ext (λ i. ended (p.line i)) (λ i. text_of l (i + 1) (r i)) l.rows
    (λ i h. ap ended (x i h ∙ sym (line-is l (i + 1) (r i) (t.line i) text (t.each i h).is (subst (PlainLine l) (x i h) (p.each i h).is)))))
