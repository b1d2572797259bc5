-- Files of text, exactly.
--     missing-exactly    a field is that of a missing sample exactly when it is its text
--     sample-exactly     a field is read as a sample, or a missing one, exactly when it is that of the sample
--     line-exactly       a row's line is fine, and says r, exactly when its fields are those of the row
--     ending-exactly     what may follow the last row
--     lines-front        lines in a row, the first of them at the front
--     text-exactly       a file is accepted as text, and its rows are r 0, r 1, .., exactly when it is the text of these rows
-- Assumes nothing.
use Rattle.std.specs.Prelude.{if◌then◌else◌}
use mathlib.Core.Path.{◌≡◌, refl, sym, ap, subst, ◌∙◌}
use mathlib.Core.Logic.{◌↔◌, ◌⊎◌, inl, inr}
use mathlib.Core.Bool.{Bool, true, false, ◌&&◌}
use mathlib.Core.List.{List, [], ◌∷◌, ◌++◌, append_assoc}
use Prim.Native.Nat.{ℕ, zero, suc, ◌+◌, ◌≤◌, ◌<◌}
use native.Mathlib.Nat.{add-zero}
use native.Mathlib.Numerals.{add-one}
use native.Mathlib.Omega.{arith}
use borrow.Author.Tests.{eqb-true, le-leb}
use lib.Dec.{eqb}
use lib.IntN.{ℤ, pos}
use lib.ListN.{length, get_or, take, drop}
use lib.Seq.{take-append_seam, drop-append-add, length-take-le}
use Rattle.ground.specs.Quoted.{quoted}
use Rattle.ground.specs.Said.{says}
use Rattle.ground.specs.Tables.{cat}
use Rattle.ground.proofs.Cases.{on_test, clash}
use Rattle.ground.proofs.Every.{and_split}
use Rattle.ground.proofs.SaidLaws.{must-holds, bind-told}
use Rattle.ground.proofs.Tables.{tab-ext, cat-front, cat-ext}
use Rattle.std.proofs.Common.{Ok, Some}
use Rattle.text.specs.Lines.{line_bytes}
use Rattle.text.specs.Fields.{field_count, after_fields, field_at}
use Rattle.text.proofs.LineLaws.{line-found, line-ended, line-scanned}
use Rattle.model.specs.declared.Kind.{Kind}
use Rattle.model.specs.declared.Kind.TheVariants.{Ascii, Binary, Binary32}
use Rattle.model.specs.declared.Edition.{Edition}
use Rattle.model.specs.declared.Edition.TheVariants.{Y2013, Y1999}
use Rattle.model.specs.declared.Layout.{Layout}
use Rattle.model.specs.declared.Row.{Row}
use Rattle.model.specs.Refusals.{refused}
use Rattle.model.specs.Samples.{is_missing, sample_of, marked_in, marked}
use Rattle.model.specs.Rows.{latest_time, trimmed}
use Rattle.model.proofs.SampleLaws.{missing-is, is-missing, holds-there}
use Rattle.numerals.specs.Wholes.{read_whole}
use Rattle.ascii_row.specs.Fields.{read_timestamp, is_missing_field, read_sample, time_in, sample_in, status_in}
use Rattle.ascii_row.specs.Rows.{fields_of, check_line, field_sample, field_status, row_of}
use Rattle.ascii_row.proofs.FieldLaws.{time-below, time-read, time-fine, missing-told, told-missing, SampleTold, sample-told, told-sample, sample-read, sample-fine}
use Rattle.ascii_row.proofs.LineLaws.{FineLine, line-told, line-is, sample-at, status-at, sample-there, status-there, row-trimmed}
use Rattle.ascii_plain.specs.Rows.{status_char}
use Rattle.ascii_file.specs.Files.{scan_row, take_row, is_ending, check_lines, check_text, line_taken, first_line, after_rows, text_row}
use Rattle.ascii_file.proofs.Laws.{row-takes-told}
use Rattle.ascii_file.proofs.RoundLaws.{status-back}
use Rattle.ascii_file.proofs.PlainLaws.{status-again}
use Rattle.paper.specs.Fields.{CountField}
use Rattle.paper.specs.Lines.{ended}
use Rattle.paper.specs.Data.{status_of, MissingText, SampleField, TextLine, TextEnding, TextFile}
use Rattle.exact.proofs.CountLaws.{count-exactly}
use Rattle.exact.proofs.WholeLaws.{whole-exactly}
use Rattle.exact.proofs.CommaLaws.{fields-exactly, fields-of}
use Rattle.exact_data.proofs.NumberLaws.{range-exactly}

-- a status is one character
status-char : (b : Bool) → status_char b ∷ [] ≡ (if b then quoted "1" else quoted "0")
status-char true = refl
status-char false = refl

-- what a field says is what the row has
time-of : (f : List ℕ) (v : ℕ) → CountField 13 v f → v ≤ latest_time → time_in f ≡ v
unfolding time_in read_timestamp
time-of f v c h = rw ((count-exactly 13 v f).1 c, le-leb v latest_time h)

-- the text of a missing sample, by kind and edition
missing-to : (k : Kind) (e : Edition) (f : List ℕ) → k ≡ Ascii
    → ((marked_in k e ≡ false) × (f ≡ [])) ⊎ ((marked_in k e ≡ true) × (read_whole f ≡ Some (pos 99999))) → MissingText e f
missing-to Ascii Y2013 f t (inl (m, n)) = n
missing-to Ascii Y2013 f t (inr (m, n)) = clash (cc)
missing-to Ascii Y1999 f t (inl (m, n)) = clash (cc)
missing-to Ascii Y1999 f t (inr (m, n)) = (whole-exactly (pos 99999) f).0 n
missing-to Binary e f t m = clash (cc)
missing-to Binary32 e f t m = clash (cc)

missing-from : (k : Kind) (e : Edition) (f : List ℕ) → k ≡ Ascii → MissingText e f
    → ((marked_in k e ≡ false) × (f ≡ [])) ⊎ ((marked_in k e ≡ true) × (read_whole f ≡ Some (pos 99999)))
missing-from Ascii Y2013 f t m = inl (refl, m)
missing-from Ascii Y1999 f t m = inr (refl, (whole-exactly (pos 99999) f).1 m)
missing-from Binary e f t m = clash (cc)
missing-from Binary32 e f t m = clash (cc)

pub missing-exactly : (l : Layout) (f : List ℕ) → l.kind ≡ Ascii → is_missing_field l f ≡ true ↔ MissingText l.edition f
unfolding marked
missing-exactly l f text =
    (λ e. missing-to l.kind l.edition f text (missing-told l f e), λ m. told-missing l f (missing-from l.kind l.edition f text m))

module _ (l : Layout) (text : l.kind ≡ Ascii) (f : List ℕ) (z : ℤ) where
  sample-to : SampleTold l f z → SampleField l (sample_of z) f
  unfolding sample_of
  sample-to (inl (e, n)) = rw (e, missing-is) ((missing-exactly l f text).0 n)
  sample-to (inr (e, h)) = rw (holds-there l z h) ((whole-exactly z f).0 e, (range-exactly l z).0 h)

  sample-from : SampleField l (sample_of z) f → SampleTold l f z
  unfolding sample_of
  sample-from =
      on_test (is_missing z)
      (λ t. rw t (λ e. inl (is-missing z t, (missing-exactly l f text).1 e)))
      (λ t. rw t (λ e. inr ((whole-exactly z f).1 e.0, (range-exactly l z).1 e.1)))

  pub sample-exactly : read_sample l f ≡ Some z ↔ SampleField l (sample_of z) f
  sample-exactly = (λ e. sample-to (sample-told l f z e), λ t. told-sample l f z (sample-from t))

  -- what a field says is what the row has
  sample-of : SampleField l (sample_of z) f → sample_in l f ≡ z
  unfolding sample_in
  sample-of t = rw (sample-exactly.1 t)

-- the line of row n
module _ (l : Layout) (text : l.kind ≡ Ascii) (n : ℕ) (line : List ℕ) where
  line-own : FineLine l n line → TextLine l n (row_of l line) line
  unfolding row_of
  line-own t =
      record {
        f = λ i. field_at i line;
        fields = fields-of (fields_of l) line (omega arith) t.count;
        number = (count-exactly 10 n (field_at 1 line)).0 t.number;
        time = (count-exactly 13 (time_in (field_at 2 line)) (field_at 2 line)).0 (time-read (field_at 2 line) t.time);
        early = omega (arith, time-below (field_at 2 line));
        samples = λ i h.
            let f = field_at (3 + i) line in
            rw (sample-there l line i h) (sample-to l text f (sample_in l f) (sample-read l f (t.samples i h)));
        statuses = λ i h.
            let f = field_at (3 + l.analogs + i) line in
            rw (status-there l line i h) (sym (status-again f (t.statuses i h)) ∙ status-char (status_in f));
        beyond = row-trimmed l line;
      }

  line-to : (r : Row) → check_line l n line ≡ says tt → row_of l line ≡ r → TextLine l n r line
  line-to r e q = subst (λ (x : Row). TextLine l n x line) q (line-own (line-told l n line e))

  -- the fields of a line that says r
  module _ (r : Row) (t : TextLine l n r line) where
    the_fields : (field_count line ≡ fields_of l) × ((i : ℕ) → 1 ≤ i → i ≤ fields_of l → field_at i line ≡ t.f i)
    the_fields = (fields-exactly (fields_of l) t.f line (omega arith)).0 t.fields

    status-field : (i : ℕ) → i < l.statuses → field_at (3 + l.analogs + i) line ≡ status_char (status_of r i) ∷ []
    status-field i h = the_fields.1 (3 + l.analogs + i) (omega arith) (omega arith) ∙ t.statuses i h ∙ sym (status-char (status_of r i))

    line-fine : check_line l n line ≡ says tt
    line-fine =
        line-is l n line (record {
          count = the_fields.0;
          number = rw (the_fields.1 1 (omega arith) (omega arith)) ((count-exactly 10 n (t.f 1)).1 t.number);
          time = rw (the_fields.1 2 (omega arith) (omega arith)) (time-fine (t.f 2) r.time ((count-exactly 13 r.time (t.f 2)).1 t.time) t.early);
          samples = λ i h.
              let z = get_or r.samples i (pos 0) in
              rw (the_fields.1 (3 + i) (omega arith) (omega arith)) (sample-fine l (t.f (3 + i)) z (sample-from l text (t.f (3 + i)) z (t.samples i h)));
          statuses = λ i h. rw (status-field i h) (status-back (status_of r i)).0;
        })

    line-says : row_of l line ≡ r
    unfolding row_of trimmed
    line-says =
        rw (
          the_fields.1 2 (omega arith) (omega arith),
          time-of (t.f 2) r.time t.time t.early,
          tab-ext (field_sample l (after_fields 2 line)) (λ i. get_or r.samples i (pos 0)) l.analogs
              (λ i h. sample-at l line i ∙ ap (sample_in l) (the_fields.1 (3 + i) (omega arith) (omega arith)) ∙ sample-of l text (t.f (3 + i)) (get_or r.samples i (pos 0)) (t.samples i h)),
          tab-ext (field_status (after_fields (2 + l.analogs) line)) (status_of r) l.statuses
              (λ i h. status-at l line i ∙ ap status_in (status-field i h) ∙ (status-back (status_of r i)).1),
        )
        t.beyond

  pub line-exactly : (r : Row) → ((check_line l n line ≡ says tt) × (row_of l line ≡ r)) ↔ TextLine l n r line
  line-exactly r = (λ a. line-to r a.0 a.1, λ t. (line-fine r t, line-says r t))

ending-to : (s : List ℕ) → is_ending s ≡ true → TextEnding s
unfolding is_ending
ending-to [] e = inl refl
ending-to (b ∷ []) e = inr (inl (ap (λ (x : ℕ). x ∷ []) (eqb-true b 26 e)))
ending-to (b ∷ c ∷ []) e = clash (cc)
ending-to (b ∷ c ∷ d ∷ []) e =
    let x = and_split (eqb b 26 && eqb c 13) (eqb d 10) e in
    let y = and_split (eqb b 26) (eqb c 13) x.0 in
    inr (inr (rw (eqb-true b 26 y.0, eqb-true c 13 y.1, eqb-true d 10 x.1)))
ending-to (b ∷ c ∷ d ∷ f ∷ s) e = clash (cc)

ending-from : (s : List ℕ) → TextEnding s → is_ending s ≡ true
unfolding is_ending
ending-from s (inl e) = rw e
ending-from s (inr (inl e)) = rw e
ending-from s (inr (inr e)) = rw e

pub ending-exactly : (s : List ℕ) → is_ending s ≡ true ↔ TextEnding s
ending-exactly s = (ending-to s, ending-from s)

-- m rows from row n on, line 0, line 1, .., and then an ending, as the check goes through them
record TextRows (l : Layout) (n m : ℕ) (s : List ℕ) (line : ℕ → List ℕ) (end : List ℕ) : Type 0 where
  parts : s ≡ cat (λ i. ended (line i)) m ++ end
  bytes : (i : ℕ) → i < m → line_bytes (line i) ≡ true
  short : (i : ℕ) → i < m → length (line i) ≤ 1880
  fine : (i : ℕ) → i < m → check_line l (n + i) (line i) ≡ says tt
  ending : is_ending end ≡ true

-- the first row, and the others
pub lines-front : (line : ℕ → List ℕ) (m : ℕ) (end : List ℕ)
    → cat (λ i. ended (line i)) (suc m) ++ end ≡ line 0 ++ 13 ∷ 10 ∷ (cat (λ i. ended (line (i + 1))) m ++ end)
lines-front line m end =
    let more = cat (λ i. ended (line (i + 1))) m in
    rw (cat-front (λ i. ended (line i)) m, append_assoc (line 0 ++ 13 ∷ 10 ∷ []) more end) (append_assoc (line 0) (13 ∷ 10 ∷ []) (more ++ end))

-- what holds of the first and of each after it
first-or : (P : ℕ → Type 0) (m : ℕ) → P 0 → ((i : ℕ) → i < m → P (suc i)) → (i : ℕ) → i < suc m → P i
first-or P m h k zero q = h
first-or P m h k (suc i) q = k i (omega arith)

-- the line with which s begins, where it is fine
module _ (s : List ℕ) (len : ℕ) (e : scan_row s ≡ Ok (record { len = len; taken = (len + 2) })) where
  first-is : first_line s ≡ take len s
  unfolding first_line
  first-is = rw e

  first_found : (line_bytes (first_line s) ≡ true) × (length (first_line s) ≤ 1880)
  first_found =
      let f = (line-found 1880 len (len + 2) s e).1 in
      (rw first-is f.bytes, rw (first-is, length-take-le len s (omega arith)) f.short)

  first_ended : s ≡ first_line s ++ 13 ∷ 10 ∷ drop (line_taken (scan_row s)) s
  first_ended = sym (line-ended 1880 len (len + 2) s e) ∙ rw (first-is, e)

rows-to : (l : Layout) (m n : ℕ) (s : List ℕ) → check_lines l s n m ≡ says tt → TextRows l n m s (λ i. first_line (after_rows i s)) (after_rows m s)
unfolding check_lines after_rows
rows-to l zero n s e =
    record {
      parts = refl;
      bytes = λ i h. absurd (omega arith);
      short = λ i h. absurd (omega arith);
      fine = λ i h. absurd (omega arith);
      ending = must-holds (is_ending s) (refused 11 n 0) e;
    }
rows-to l (suc m) n s e =
    let b = bind-told (take_row l n s) (λ taken. check_lines l (drop taken s) (n + 1) m) tt e in
    let f = row-takes-told l n s b.0 b.1 in
    let t = drop (line_taken (scan_row s)) s in
    let w : b.0 ≡ line_taken (scan_row s) = f.takes ∙ ap line_taken (sym f.scanned) in
    let r = rows-to l m (n + 1) t (subst (λ (k : ℕ). check_lines l (drop k s) (n + 1) m ≡ says tt) w b.2) in
    let line : ℕ → List ℕ = λ i. first_line (after_rows i s) in
    let g = first_found s f.len f.scanned in
    let c : cat (λ i. ended (first_line (after_rows i t))) m ≡ cat (λ i. ended (line (i + 1))) m = cat-ext _ _ m (λ i h. rw add-one) in
    record {
      parts = first_ended s f.len f.scanned ∙ ap (λ (x : List ℕ). first_line s ++ 13 ∷ 10 ∷ x) (r.parts ∙ ap (λ (x : List ℕ). x ++ after_rows m t) c) ∙ sym (lines-front line m (after_rows m t));
      bytes = first-or (λ i. line_bytes (line i) ≡ true) m g.0 r.bytes;
      short = first-or (λ i. length (line i) ≤ 1880) m g.1 r.short;
      fine = first-or (λ i. check_line l (n + i) (line i) ≡ says tt) m
          (rw (add-zero, first-is s f.len f.scanned) f.line)
          (λ i h. let q : n + suc i ≡ n + 1 + i = omega arith in rw q (r.fine i h));
      ending = r.ending;
    }

-- the lines after the first, and the ending
others : (ℕ → List ℕ) → ℕ → List ℕ → List ℕ
others line m end = cat (λ i. ended (line (i + 1))) m ++ end

-- lines in a row, the first of them at the front
module _ (l : Layout) (n m : ℕ) (s : List ℕ) (line : ℕ → List ℕ) (end : List ℕ) (r : TextRows l n (suc m) s line end) where
  front : s ≡ line 0 ++ 13 ∷ 10 ∷ others line m end
  unfolding others
  front = r.parts ∙ lines-front line m end

  front-scanned : scan_row s ≡ Ok (record { len = (length (line 0)); taken = (length (line 0) + 2) })
  front-scanned = rw front (line-scanned 1880 (line 0) (others line m end) (r.bytes 0 (omega arith)) (r.short 0 (omega arith)))

  front-line : take (length (line 0)) s ≡ line 0
  front-line = rw (front, take-append_seam)

  front_rest : drop (length (line 0) + 2) s ≡ others line m end
  front_rest = rw (front, drop-append-add)

  front-checked : take_row l n s ≡ says (length (line 0) + 2)
  unfolding take_row
  front-checked = rw (front-scanned, front-line, rw add-zero at (r.fine 0 (omega arith)))

  after_front : TextRows l (n + 1) m (others line m end) (λ i. line (i + 1)) end
  unfolding others
  after_front =
      record {
        parts = refl;
        bytes = λ i h. r.bytes (i + 1) (omega arith);
        short = λ i h. r.short (i + 1) (omega arith);
        fine = λ i h. let q : n + 1 + i ≡ n + (i + 1) = omega arith in rw q (r.fine (i + 1) (omega arith));
        ending = r.ending;
      }

rows-from : (l : Layout) (m n : ℕ) (s : List ℕ) (line : ℕ → List ℕ) (end : List ℕ) → TextRows l n m s line end → check_lines l s n m ≡ says tt
unfolding check_lines
rows-from l zero n s line end r = rw (r.parts, r.ending)
rows-from l (suc m) n s line end r =
    rw (front-checked l n m s line end r, front_rest l n m s line end r)
    (rows-from l m (n + 1) (others line m end) (λ i. line (i + 1)) end (after_front l n m s line end r))

-- line i is found again
line-back : (l : Layout) (m n i : ℕ) (s : List ℕ) (line : ℕ → List ℕ) (end : List ℕ) → TextRows l n m s line end → i < m → first_line (after_rows i s) ≡ line i
unfolding after_rows first_line
line-back l zero n i s line end r h = absurd (omega arith)
line-back l (suc m) n zero s line end r h = rw (front-scanned l n m s line end r) (front-line l n m s line end r)
line-back l (suc m) n (suc i) s line end r h =
    rw (front-scanned l n m s line end r, front_rest l n m s line end r)
    (line-back l m (n + 1) i (others line m end) (λ i. line (i + 1)) end (after_front l n m s line end r) (omega arith) ∙ rw add-one)

-- a file of text
module _ (l : Layout) (text : l.kind ≡ Ascii) (r : ℕ → Row) (s : List ℕ) where
  text-to : check_text l s ≡ says tt → ((i : ℕ) → i < l.rows → text_row l i s ≡ r i) → TextFile l r s
  unfolding check_text text_row
  text-to e rows =
      let d = rows-to l l.rows 1 s e in
      let line : ℕ → List ℕ = λ i. first_line (after_rows i s) in
      record {
        line = line;
        end = after_rows l.rows s;
        whole = d.parts;
        each = λ i h.
            let q : 1 + i ≡ i + 1 = omega arith in
            record { bytes = d.bytes i h; is = (line-exactly l text (i + 1) (line i) (r i)).0 (rw q at (d.fine i h), rows i h) };
        short = d.short;
        ends = (ending-exactly (after_rows l.rows s)).0 d.ending;
      }

  module _ (t : TextFile l r s) where
    -- its line of row i
    line-right : (i : ℕ) → i < l.rows → (check_line l (i + 1) (t.line i) ≡ says tt) × (row_of l (t.line i) ≡ r i)
    line-right i h = (line-exactly l text (i + 1) (t.line i) (r i)).1 (t.each i h).is

    device : TextRows l 1 l.rows s t.line t.end
    device =
        record {
          parts = t.whole;
          bytes = λ i h. (t.each i h).bytes;
          short = t.short;
          fine = λ i h. let q : 1 + i ≡ i + 1 = omega arith in rw q (line-right i h).0;
          ending = (ending-exactly t.end).1 t.ends;
        }

    text-from : (check_text l s ≡ says tt) × ((i : ℕ) → i < l.rows → text_row l i s ≡ r i)
    unfolding check_text text_row
    text-from = (
      rows-from l l.rows 1 s t.line t.end device,
      λ i h. ap (row_of l) (line-back l l.rows 1 i s t.line t.end device h) ∙ (line-right i h).1,
    )

  pub text-exactly : ((check_text l s ≡ says tt) × ((i : ℕ) → i < l.rows → text_row l i s ≡ r i)) ↔ TextFile l r s
  text-exactly = (λ a. text-to a.0 a.1, text-from)
