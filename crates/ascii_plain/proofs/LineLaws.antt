-- Laws of the line of a plain row: it is a line, and these are its fields.
--     field_text, as-joined, commas-field        the fields in a row with commas between them, none within one
--     field-sample, field-status                the fields of a sample and a status among them
--     line-bytes-plain                          every byte is one that a line may have
--     fields-line                               how many fields it has
--     number-field, time-field, sample-field, status-field     what each of them is
--     unread-text                               places past A and D are not read
-- Assumes nothing.
use Rattle.std.specs.Prelude.{if◌then◌else◌}
use mathlib.Core.Path.{◌≡◌, refl, ap, ◌∙◌}
use mathlib.Core.Bool.{Bool, true, false, ◌&&◌}
use mathlib.Core.List.{List, [], ◌∷◌, ◌++◌, append_assoc}
use Prim.Native.Nat.{ℕ, zero, suc, ◌+◌, ◌-◌, ◌<◌, ◌≤◌}
use native.Mathlib.Omega.{arith}
use borrow.Author.Tests.{leb-true, le-leb, ne_eqb, lt-ltb, le-ltb}
use lib.Dec.{leb, ltb}
use lib.IntN.{ℤ, pos, negsuc}
use lib.ListN.{get_or}
use Rattle.ground.specs.Tables.{cat, every}
use Rattle.ground.proofs.Cases.{on_test}
use Rattle.ground.proofs.Every.{and_split, and-join, every_append, every-cat, every-imply}
use Rattle.ground.proofs.Tables.{cat-ext, cat-front, cat-split}
use Rattle.text.specs.Lines.{line_bytes}
use Rattle.text.specs.Fields.{commas, field_count, field_at, joined}
use Rattle.text.proofs.FieldLaws.{joined-count, joined_at}
use Rattle.numerals.specs.Counts.{is_digit}
use Rattle.numerals.specs.Decimals.{decimal, plain}
use Rattle.numerals.proofs.CountLaws.{digit-bounds}
use Rattle.numerals.proofs.PlainLaws.{decimal-digits}
use Rattle.numerals.proofs.WholeLaws.{plain-pos, plain-neg}
use Rattle.model.specs.declared.Layout.{Layout}
use Rattle.model.specs.declared.Row.{Row}
use Rattle.model.specs.Samples.{is_missing}
use Rattle.ascii_plain.specs.Rows.{sample_chars, sample_text, samples_text, status_char, status_text, statuses_text, line_of, text_of}
use Rattle.ascii_plain.proofs.LengthLaws.{missing-either, chars-missing, chars-there}

-- a minus, a digit, or a byte between the two: no comma, and one that a line may have
abbrev is_symbol : ℕ → Bool
is_symbol b = leb 45 b && leb b 57

symbol-bounds : (b : ℕ) → is_symbol b ≡ true → (45 ≤ b) × (b ≤ 57)
symbol-bounds b h = let s = and_split (leb 45 b) (leb b 57) h in (leb-true 45 b s.0, leb-true b 57 s.1)

decimal-symbols : (v : ℕ) → every is_symbol (decimal v) ≡ true
decimal-symbols v =
    every-imply is_digit is_symbol (decimal v)
    (λ b h. let d = digit-bounds b h in and-join (leb 45 b) (leb b 57) (le-leb 45 b (omega arith)) (le-leb b 57 d.1))
    (decimal-digits v)

plain-symbols : (z : ℤ) → every is_symbol (plain z) ≡ true
plain-symbols (pos v) = rw (plain-pos v) (decimal-symbols v)
plain-symbols (negsuc v) = rw (plain-neg v) (decimal-symbols (suc v))

chars-symbols : (l : Layout) (z : ℤ) → every is_symbol (sample_chars l z) ≡ true
chars-symbols l z =
    on_test (is_missing z)
    (λ t. rw (chars-missing l z t) (missing-either l (λ x. every is_symbol x ≡ true) refl (plain-symbols (pos 99999))))
    (λ t. rw (chars-there l z t) (plain-symbols z))

status-symbols : (b : Bool) → every is_symbol (status_char b ∷ []) ≡ true
status-symbols true = refl
status-symbols false = refl

symbols-line : (x : List ℕ) → every is_symbol x ≡ true → line_bytes x ≡ true
symbols-line x =
    every-imply is_symbol (λ b. leb 32 b && leb b 126) x
    (λ b h. let m = symbol-bounds b h in and-join (leb 32 b) (leb b 126) (le-leb 32 b (omega arith)) (le-leb b 126 (omega arith)))

symbols-commas : (x : List ℕ) → every is_symbol x ≡ true → commas x ≡ 0
symbols-commas [] h = refl
symbols-commas (b ∷ x) h =
    let s = and_split (is_symbol b) (every is_symbol x) h in
    let m = symbol-bounds b s.0 in
    rw (ne_eqb b 44 (λ e. omega arith)) (symbols-commas x s.1)

module _ (l : Layout) (n : ℕ) (r : Row) where
  -- the fields, counted from 0: number, timestamp, A samples, D statuses
  abbrev pub field_text : ℕ → List ℕ
  field_text zero = decimal n
  field_text (suc zero) = decimal r.time
  field_text (suc (suc i)) =
      if ltb i l.analogs then sample_chars l (get_or r.samples i (pos 0))
      else status_char (get_or r.statuses (i - l.analogs) false) ∷ []

  pub field-sample : (i : ℕ) → i < l.analogs → field_text (suc (suc i)) ≡ sample_chars l (get_or r.samples i (pos 0))
  field-sample i h = rw (lt-ltb i l.analogs h)

  pub field-status : (i : ℕ) → field_text (suc (suc (l.analogs + i))) ≡ status_char (get_or r.statuses i false) ∷ []
  field-status i =
      let e : l.analogs + i - l.analogs ≡ i = omega arith in
      rw (le-ltb (l.analogs + i) l.analogs (omega arith), e)

  field-symbols : (j : ℕ) → every is_symbol (field_text j) ≡ true
  field-symbols zero = decimal-symbols n
  field-symbols (suc zero) = decimal-symbols r.time
  field-symbols (suc (suc i)) =
      on_test (ltb i l.analogs)
      (λ e. rw e (chars-symbols l (get_or r.samples i (pos 0))))
      (λ e. rw e (status-symbols (get_or r.statuses (i - l.analogs) false)))

  pub commas-field : (j : ℕ) → commas (field_text j) ≡ 0
  commas-field j = symbols-commas (field_text j) (field-symbols j)

  -- samples and statuses, each after its comma
  channels : cat (λ i. 44 ∷ field_text (i + 1 + 1)) (l.analogs + l.statuses)
      ≡ samples_text l r.samples ++ statuses_text l.statuses r.statuses
  channels =
      let g : ℕ → List ℕ = λ i. 44 ∷ field_text (i + 1 + 1) in
      let a = l.analogs in
      let z = cat-ext g (sample_text l r.samples) a
      (λ i h. let e : i + 1 + 1 ≡ suc (suc i) = omega arith in ap (λ (x : List ℕ). 44 ∷ x) (ap field_text e ∙ field-sample i h)) in
      let s = cat-ext (λ i. g (a + i)) (status_text r.statuses) l.statuses
      (λ i h. let e : a + i + 1 + 1 ≡ suc (suc (a + i)) = omega arith in ap (λ (x : List ℕ). 44 ∷ x) (ap field_text e ∙ field-status i)) in
      cat-split g a l.statuses ∙ rw (z, s)

  pub as-joined : line_of l n r ≡ joined field_text (1 + l.analogs + l.statuses)
  unfolding line_of joined
  as-joined =
      let g : ℕ → List ℕ = λ i. 44 ∷ field_text (i + 1) in
      let e : 1 + l.analogs + l.statuses ≡ suc (l.analogs + l.statuses) = omega arith in
      rw (e, cat-front g (l.analogs + l.statuses), channels, append_assoc)

  pub line-bytes-plain : line_bytes (line_of l n r) ≡ true
  unfolding joined
  line-bytes-plain =
      let test : ℕ → Bool = λ b. leb 32 b && leb b 126 in
      let bytes : (j : ℕ) → line_bytes (field_text j) ≡ true = λ j. symbols-line (field_text j) (field-symbols j) in
      let m = 1 + l.analogs + l.statuses in
      let more = every-cat test (λ i. 44 ∷ field_text (i + 1)) m (λ i h. bytes (i + 1)) in
      rw as-joined (every_append test (field_text 0) (cat (λ i. 44 ∷ field_text (i + 1)) m) (bytes 0) more)

  pub fields-line : field_count (line_of l n r) ≡ 2 + l.analogs + l.statuses
  fields-line = rw as-joined (joined-count field_text (1 + l.analogs + l.statuses) (λ j h. commas-field j) ∙ omega arith)

  field : (j : ℕ) → j ≤ 1 + l.analogs + l.statuses → field_at (j + 1) (line_of l n r) ≡ field_text j
  field j h = rw as-joined (joined_at field_text (1 + l.analogs + l.statuses) j (λ j h. commas-field j) h)

  pub number-field : field_at 1 (line_of l n r) ≡ decimal n
  number-field = field 0 (omega arith)

  pub time-field : field_at 2 (line_of l n r) ≡ decimal r.time
  time-field = field 1 (omega arith)

  pub sample-field : (i : ℕ) → i < l.analogs → field_at (3 + i) (line_of l n r) ≡ sample_chars l (get_or r.samples i (pos 0))
  sample-field i h =
      let e : 3 + i ≡ suc (suc i) + 1 = omega arith in
      rw e (field (suc (suc i)) (omega arith) ∙ field-sample i h)

  pub status-field : (i : ℕ) → i < l.statuses → field_at (3 + l.analogs + i) (line_of l n r) ≡ status_char (get_or r.statuses i false) ∷ []
  status-field i h =
      let e : 3 + l.analogs + i ≡ suc (suc (l.analogs + i)) + 1 = omega arith in
      rw e (field (suc (suc (l.analogs + i))) (omega arith) ∙ field-status i)

-- two rows that agree in what is read
module _ (l : Layout) (n : ℕ) (r q : Row)
    (time : r.time ≡ q.time)
    (samples : (i : ℕ) → i < l.analogs → get_or r.samples i (pos 0) ≡ get_or q.samples i (pos 0))
    (statuses : (i : ℕ) → i < l.statuses → get_or r.statuses i false ≡ get_or q.statuses i false) where
  pub unread-text : text_of l n r ≡ text_of l n q
  unfolding text_of line_of
  unread-text =
      rw (
        time,
        cat-ext (sample_text l r.samples) (sample_text l q.samples) l.analogs (λ i h. rw (samples i h)),
        cat-ext (status_text r.statuses) (status_text q.statuses) l.statuses (λ i h. rw (statuses i h)),
      )
