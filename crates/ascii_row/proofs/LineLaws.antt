-- Laws of the line of a text row: what its check asks of each field, and what each field gives the row.
--     FineLine, line-told, line-is     a line that is fine, by its fields
--     of-time, of-sample, of-status    what is asked of each field
--     sample-at, status-at             what a field past the timestamp says, by its place in the line
--     sample-there, status-there       so the samples and the statuses of the row, by their fields
--     row-trimmed                      what was read has its places past A and D zero
-- Assumes nothing.
use mathlib.Core.Path.{◌≡◌, refl, ap, ◌∙◌}
use mathlib.Core.Bool.{true, false}
use mathlib.Core.Logic.{⊎_elim}
use mathlib.Core.List.{List}
use Prim.Native.Nat.{ℕ, zero, suc, ◌+◌, ◌-◌, ◌<◌, ◌≤◌}
use native.Mathlib.Nat.{add-zero}
use native.Mathlib.Omega.{arith}
use borrow.Author.Tests.{eq-eqb, eqb-true, ne_eqb, le-leb, lt-leb}
use lib.Dec.{eqb}
use lib.IntN.{pos}
use lib.ListN.{get_or, drop}
use Rattle.ground.specs.Said.{says, ◌>>=◌, must}
use Rattle.ground.proofs.Cases.{lt-or-ge}
use Rattle.ground.proofs.Filled.{get_or-padded, padded-again}
use Rattle.ground.proofs.SaidLaws.{must-told, must-holds, then-told}
use Rattle.text.specs.Fields.{field_count, field_length, first_field, after_fields, field_at}
use Rattle.text.proofs.FieldLaws.{field-first, field_past, field-later}
use Rattle.std.proofs.Common.{None, Option, Some}
use Rattle.numerals.specs.Counts.{read_count}
use Rattle.model.specs.declared.Layout.{Layout}
use Rattle.model.specs.Refusals.{refused}
use Rattle.model.specs.Rows.{trimmed}
use Rattle.ascii_row.specs.Fields.{read_timestamp, read_sample, is_status, is_count, is_whole, sample_in, status_in}
use Rattle.ascii_row.specs.Rows.{fields_of, field, field_fine, check_fields, check_number, check_line, field_sample, field_status, row_of}

-- each of m fields from field k on, with which t begins, is fine
fields-is : (l : Layout) (n : ℕ) (t : List ℕ) (k m : ℕ) → ((j : ℕ) → j < m → field_fine l (k + j) (field_at (j + 1) t) ≡ true) → check_fields l n t k m ≡ says tt
unfolding check_fields
fields-is l n t k zero h = refl
fields-is l n t k (suc m) h =
    let f : field_fine l k (first_field t) ≡ true = rw (add-zero k, field-first (0 + 1) t (omega arith)) at (h 0 (omega arith)) in
    rw f
    (fields-is l n (drop (field_length t + 1) t) (k + 1) m
    (λ j q. let e : k + 1 + j ≡ k + (j + 1) = omega arith in rw (e, ← field_past) (h (j + 1) (omega arith))))

fields_told : (l : Layout) (n : ℕ) (t : List ℕ) (k m : ℕ) → check_fields l n t k m ≡ says tt → (j : ℕ) → j < m → field_fine l (k + j) (field_at (j + 1) t) ≡ true
unfolding check_fields
fields_told l n t k zero e j h = absurd (omega arith)
fields_told l n t k (suc m) e zero h =
    rw (add-zero k, field-first (0 + 1) t (omega arith))
    (must-told (field_fine l k (first_field t)) (refused 14 n k) (check_fields l n (drop (field_length t + 1) t) (k + 1) m) tt e).0
fields_told l n t k (suc m) e (suc j) h =
    let u = drop (field_length t + 1) t in
    let q : k + suc j ≡ k + 1 + j = omega arith in
    let s : suc j + 1 ≡ j + 1 + 1 = omega arith in
    rw (q, s, field_past)
    (fields_told l n u (k + 1) m (must-told (field_fine l k (first_field t)) (refused 14 n k) (check_fields l n u (k + 1) m) tt e).1 j (omega arith))

-- a line that row n's check finds fine
pub record FineLine (l : Layout) (n : ℕ) (line : List ℕ) : Type 0 where
  pub count : field_count line ≡ fields_of l
  pub number : read_count 1 10 (field_at 1 line) ≡ Some n
  pub time : is_count (read_timestamp (field_at 2 line)) ≡ true
  pub samples : (i : ℕ) → i < l.analogs → is_whole (read_sample l (field_at (3 + i) line)) ≡ true
  pub statuses : (i : ℕ) → i < l.statuses → is_status (field_at (3 + l.analogs + i) line) ≡ true

-- what is asked of each field
module _ (l : Layout) (f : List ℕ) where
  pub of-time : field_fine l 2 f ≡ is_count (read_timestamp f)
  unfolding field_fine
  of-time = refl

  pub of-sample : (i : ℕ) → i < l.analogs → field_fine l (3 + i) f ≡ is_whole (read_sample l f)
  unfolding field_fine
  of-sample i h = rw (ne_eqb (3 + i) 2 (λ e. omega arith), le-leb (3 + i) (2 + l.analogs) (omega arith))

  pub of-status : (i : ℕ) → field_fine l (3 + l.analogs + i) f ≡ is_status f
  unfolding field_fine
  of-status i = rw (ne_eqb (3 + l.analogs + i) 2 (λ e. omega arith), lt-leb (3 + l.analogs + i) (2 + l.analogs) (omega arith))

number-told : (n : ℕ) (k : Option ℕ) → (field n 1 k >>= (λ number. must (eqb number n) (refused 12 n 1))) ≡ says tt → k ≡ Some n
number-told n (Some v) e = ap Some (eqb-true v n (must-holds (eqb v n) (refused 12 n 1) e))
number-told n None e = cc

pub line-told : (l : Layout) (n : ℕ) (line : List ℕ) → check_line l n line ≡ says tt → FineLine l n line
unfolding check_line check_number
line-told l n line e =
    let a = l.analogs in
    let c = then-told (must (eqb (field_count line) (fields_of l)) (refused 14 n 0)) _ tt e in
    let d = then-told (check_number n line) _ tt c.1 in
    let fine : (j : ℕ) → j < 1 + a + l.statuses → field_fine l (2 + j) (field_at (2 + j) line) ≡ true
    = λ j h. let q : 1 + j + 1 ≡ 2 + j = omega arith in rw (field-later, q) at (fields_told l n (after_fields 1 line) 2 (1 + a + l.statuses) d.1 j h) in
    record {
      count = eqb-true (field_count line) (fields_of l) (must-holds _ (refused 14 n 0) c.0);
      number = number-told n (read_count 1 10 (field_at 1 line)) d.0;
      time = rw of-time at (fine 0 (omega arith));
      samples = λ i h. let q : 2 + (1 + i) ≡ 3 + i = omega arith in rw (q, of-sample l (field_at (3 + i) line) i h) at (fine (1 + i) (omega arith));
      statuses = λ i h. let q : 2 + (1 + a + i) ≡ 3 + a + i = omega arith in rw (q, of-status l (field_at (3 + a + i) line) i) at (fine (1 + a + i) (omega arith));
    }

-- the fields from the second on
module _ (l : Layout) (n : ℕ) (line : List ℕ) (f : FineLine l n line) where
  field_is : (j : ℕ) → j < 1 + l.analogs + l.statuses → field_fine l (2 + j) (field_at (2 + j) line) ≡ true
  field_is zero h = rw of-time f.time
  field_is (suc j) h =
      ⊎_elim
      (λ (k : j < l.analogs).
      let e : 2 + suc j ≡ 3 + j = omega arith in
      rw (e, of-sample l (field_at (3 + j) line) j k) (f.samples j k))
      (λ (k : l.analogs ≤ j).
      let e : 2 + suc j ≡ 3 + l.analogs + (j - l.analogs) = omega arith in
      rw (e, of-status l (field_at (3 + l.analogs + (j - l.analogs)) line) (j - l.analogs)) (f.statuses (j - l.analogs) (omega arith)))
      (lt-or-ge j l.analogs)

  pub line-is : check_line l n line ≡ says tt
  unfolding check_line check_number
  line-is =
      rw (eq-eqb (field_count line) (fields_of l) f.count, f.number, eq-eqb n n refl)
      (fields-is l n (after_fields 1 line) 2 (1 + l.analogs + l.statuses)
      (λ j h. let q : 1 + j + 1 ≡ 2 + j = omega arith in rw (field-later, q) (field_is j h)))

module _ (l : Layout) (line : List ℕ) where
  pub sample-at : (i : ℕ) → field_sample l (after_fields 2 line) i ≡ sample_in l (field_at (3 + i) line)
  sample-at i = let e : 2 + i + 1 ≡ 3 + i = omega arith in rw (field-later, e)

  pub status-at : (i : ℕ) → field_status (after_fields (2 + l.analogs) line) i ≡ status_in (field_at (3 + l.analogs + i) line)
  status-at i = let e : 2 + l.analogs + i + 1 ≡ 3 + l.analogs + i = omega arith in rw (field-later, e)

  pub sample-there : (i : ℕ) → i < l.analogs → get_or (row_of l line).samples i (pos 0) ≡ sample_in l (field_at (3 + i) line)
  unfolding row_of
  sample-there i h = get_or-padded (field_sample l (after_fields 2 line)) l.analogs 96 i (pos 0) (pos 0) h ∙ sample-at i

  pub status-there : (i : ℕ) → i < l.statuses → get_or (row_of l line).statuses i false ≡ status_in (field_at (3 + l.analogs + i) line)
  unfolding row_of
  status-there i h = get_or-padded (field_status (after_fields (2 + l.analogs) line)) l.statuses 256 i false false h ∙ status-at i

  pub row-trimmed : trimmed l (row_of l line) ≡ row_of l line
  unfolding trimmed row_of
  row-trimmed =
      rw (
        padded-again (field_sample l (after_fields 2 line)) l.analogs 96 (pos 0),
        padded-again (field_status (after_fields (2 + l.analogs) line)) l.statuses 256 false,
      )
