-- Laws of the walk over a data file: its verdict is the file's, and its rows the file's rows.
--     rest-none, rest-next      what follows the first i rows, from one to the next
--     row-here                  row i is the row with which it begins
--     walk_turn                 a turn of the check over the rows
--     fine-walk                 the file is fine where the walk finds it so
--     fine-taken                a row that is fine takes what a row there takes
--     here-within, has-row      a row lies within what is left
--     here-tabled, start-tabled, end-tabled     `check_here`, `start_fine` and `end_fine` refuse with reasons in the table of numbers alone
-- Assumes nothing.
use mathlib.Core.Path.{◌≡◌, refl, sym, ap, ◌∙◌}
use mathlib.Core.List.{List}
use Prim.Native.Nat.{ℕ, zero, suc, ◌+◌, ◌-◌, ◌*◌, ◌<◌, ◌≤◌}
use native.Mathlib.Nat.{zero-mul, suc-mul}
use native.Mathlib.Numerals.{add-one}
use native.Mathlib.Omega.{arith}
use lib.ListN.{length, take, drop, length-drop}
use lib.Seq.{drop-drop}
use Rattle.ground.specs.Said.{Said, says, refuses, ◌>>=◌, ◌>>◌}
use Rattle.ground.proofs.RefusalLaws.{only_then}
use Rattle.ground.proofs.SaidLaws.{then-told, bind-ext}
use Rattle.ground.proofs.Tables.{block-end}
use Rattle.model.specs.declared.Kind.TheVariants.{Ascii}
use Rattle.model.specs.declared.Layout.{Layout}
use Rattle.model.specs.declared.Refusal.{Refusal}
use Rattle.model.proofs.NumberLaws.{RefusalTabled, RefusesTabled}
use Rattle.ascii_row.specs.Rows as ascii
use Rattle.binary_row.specs.Rows as binary
use Rattle.binary_row.proofs.RowLaws.{check-tabled}
use Rattle.binary_file.specs.Files as binary_file
use Rattle.binary_file.proofs.Laws.{length-told, length-tabled}
use Rattle.ascii_file.specs.Files as ascii_file
use Rattle.ascii_file.proofs.Laws as text-laws
use Rattle.row_bytes.proofs.KindLaws.{text-kind, binary-kind, by-kind, kind-only}
use Rattle.data.specs.Files.{file_fine, row_at}
use Rattle.rows.specs.Inner.{taken_here, binary_here, row_here, HasRow, rest_of, fine_here, check_here, start_fine, end_fine, walk_fine}

pub walk_turn : (l : Layout) (t : List ℕ) (i rows : ℕ) → i < rows
    → walk_fine l t (i + 1) (rows - i) ≡ (check_here l (i + 1) t >>= (λ taken. walk_fine l (drop taken t) (i + 1 + 1) (rows - (i + 1))))
unfolding walk_fine
walk_turn l t i rows h = let e : rows - i ≡ suc (rows - (i + 1)) = omega arith in rw e

-- a text
module _ (l : Layout) (text : l.kind ≡ Ascii) where
  text-check : (n : ℕ) (t : List ℕ) → check_here l n t ≡ ascii_file.take_row l n t
  unfolding check_here
  text-check n t = text-kind l.kind (ascii_file.take_row l n t) (fine_here l n t) text

  text-rest : (s : List ℕ) (i : ℕ) → rest_of l s i ≡ ascii_file.after_rows i s
  unfolding rest_of
  text-rest s i = text-kind l.kind (ascii_file.after_rows i s) (drop (i * binary.row_size l) s) text

  text-taken : (t : List ℕ) → taken_here l t ≡ ascii_file.line_taken (ascii_file.scan_row t)
  unfolding taken_here
  text-taken t = text-kind l.kind (ascii_file.line_taken (ascii_file.scan_row t)) (binary.row_size l) text

  text-walk : (t : List ℕ) (n m : ℕ) → walk_fine l t n m ≡ ascii_file.check_lines l t n m
  unfolding walk_fine ascii_file.check_lines end_fine
  text-walk t n zero = text-kind l.kind (ascii_file.check_end n t) (says tt) text
  text-walk t n (suc m) =
      rw (text-check n t)
      (bind-ext (ascii_file.take_row l n t) (λ k. walk_fine l (drop k t) (n + 1) m) (λ k. ascii_file.check_lines l (drop k t) (n + 1) m) (λ k. text-walk (drop k t) (n + 1) m))

-- a file of the binary kinds
module _ (l : Layout) (other : l.kind ≡ Ascii → ⊥) where
  binary-check : (n : ℕ) (t : List ℕ) → check_here l n t ≡ fine_here l n t
  unfolding check_here
  binary-check n t = binary-kind l.kind (ascii_file.take_row l n t) (fine_here l n t) other

  binary-rest : (s : List ℕ) (i : ℕ) → rest_of l s i ≡ drop (i * binary.row_size l) s
  unfolding rest_of
  binary-rest s i = binary-kind l.kind (ascii_file.after_rows i s) (drop (i * binary.row_size l) s) other

  binary-taken : (t : List ℕ) → taken_here l t ≡ binary.row_size l
  unfolding taken_here
  binary-taken t = binary-kind l.kind (ascii_file.line_taken (ascii_file.scan_row t)) (binary.row_size l) other

  front : (s : List ℕ) (i : ℕ) → binary_file.row_bytes l i s ≡ take (binary.row_size l) (drop (i * binary.row_size l) s)
  front s i =
      let e : i * binary.row_size l + binary.row_size l - i * binary.row_size l ≡ binary.row_size l = omega arith in
      rw e

  next : (s : List ℕ) (i : ℕ) → drop (binary.row_size l) (drop (i * binary.row_size l) s) ≡ drop ((i + 1) * binary.row_size l) s
  next s i = rw (drop-drop, add-one, suc-mul)

  then-bind : {A : Type 0} (x : Said Refusal (Unit {0})) (k : ℕ) (f : ℕ → Said Refusal A) (y : Said Refusal A) → f k ≡ y
      → ((x >> says k) >>= f) ≡ (x >> y)
  then-bind (says tt) k f y e = e
  then-bind (refuses r) k f y e = refl

  binary-walk : (s : List ℕ) (i m : ℕ) → walk_fine l (drop (i * binary.row_size l) s) (i + 1) m ≡ binary_file.check_rows l s i m
  unfolding walk_fine binary_file.check_rows end_fine
  binary-walk s i zero = binary-kind l.kind (ascii_file.check_end (i + 1) (drop (i * binary.row_size l) s)) (says tt) other
  binary-walk s i (suc m) =
      rw (binary-check (i + 1) (drop (i * binary.row_size l) s), ← front s i)
      (then-bind (binary.check_row l (i + 1) (binary_file.row_bytes l i s)) (binary.row_size l)
      (λ k. walk_fine l (drop k (drop (i * binary.row_size l) s)) (i + 1 + 1) m)
      (binary_file.check_rows l s (i + 1) m)
      (rw (next s i) (binary-walk s (i + 1) m)))

pub rest-none : (l : Layout) (s : List ℕ) → rest_of l s 0 ≡ s
rest-none l s =
    by-kind l.kind (λ e. rw (text-rest l e s 0) (text-laws.rows_none s)) (λ e. rw (binary-rest l e s 0, zero-mul))

pub rest-next : (l : Layout) (s : List ℕ) (i : ℕ) → rest_of l s (i + 1) ≡ drop (taken_here l (rest_of l s i)) (rest_of l s i)
rest-next l s i =
    by-kind l.kind
    (λ e. rw (text-taken l e (rest_of l s i), text-rest l e s i, text-rest l e s (i + 1)) (text-laws.rows-after i s))
    (λ e. rw (binary-taken l e (rest_of l s i), binary-rest l e s i, binary-rest l e s (i + 1)) (sym (next l e s i)))

pub row-here : (l : Layout) (s : List ℕ) (i : ℕ) → row_at l s i ≡ row_here l (rest_of l s i)
unfolding row_at row_here ascii_file.text_row binary_file.binary_row
row-here l s i =
    by-kind l.kind
    (λ e.
    rw (text-rest l e s i)
    (text-kind l.kind (ascii_file.text_row l i s) (binary_file.binary_row l i s) e
    ∙ sym (text-kind l.kind (ascii.row_of l (ascii_file.first_line (ascii_file.after_rows i s))) (binary_here l (ascii_file.after_rows i s)) e)))
    (λ e.
    let t = drop (i * binary.row_size l) s in
    rw (binary-rest l e s i)
    (binary-kind l.kind (ascii_file.text_row l i s) (binary_file.binary_row l i s) e
    ∙ ap (binary.row_of l) (front l e s i)
    ∙ sym (binary-kind l.kind (ascii.row_of l (ascii_file.first_line t)) (binary_here l t) e)))

pub fine-walk : (l : Layout) (s : List ℕ) → file_fine l s ≡ (start_fine l s >> walk_fine l s 1 l.rows)
unfolding file_fine start_fine ascii_file.check_text binary_file.check_binary
fine-walk l s =
    by-kind l.kind
    (λ e.
    rw (
      text-kind l.kind (ascii_file.check_text l s) (binary_file.check_binary l s) e,
      text-kind l.kind (says tt) (binary_file.check_length l s) e,
      text-walk l e s 1 l.rows,
    ))
    (λ e.
    let w : walk_fine l s 1 l.rows ≡ binary_file.check_rows l s 0 l.rows = rw zero-mul at (binary-walk l e s 0 l.rows) in
    rw (
      binary-kind l.kind (ascii_file.check_text l s) (binary_file.check_binary l s) e,
      binary-kind l.kind (says tt) (binary_file.check_length l s) e,
      w,
    ))

pub fine-taken : (l : Layout) (n : ℕ) (t : List ℕ) (k : ℕ) → check_here l n t ≡ says k → taken_here l t ≡ k
fine-taken l n t k h =
    by-kind l.kind
    (λ e. let f = text-laws.row-takes-told l n t k (sym (text-check l e n t) ∙ h) in rw (text-taken l e t, f.scanned) (sym f.takes))
    (λ e.
    let told = then-told (binary.check_row l n (take (binary.row_size l) t)) (says (binary.row_size l)) k (sym (binary-check l e n t) ∙ h) in
    binary-taken l e t ∙ cc told.1)

pub here-within : (l : Layout) (t : List ℕ) → HasRow l t → taken_here l t ≤ length t
here-within l t h =
    by-kind l.kind (λ e. rw (text-taken l e t) (text-laws.line-taken-within t)) (λ e. rw (binary-taken l e t) (h e))

pub has-row : (l : Layout) (s : List ℕ) → start_fine l s ≡ says tt → (i : ℕ) → i < l.rows → HasRow l (rest_of l s i)
unfolding start_fine
has-row l s h i k other =
    let e = length-told l s (sym (binary-kind l.kind (says tt) (binary_file.check_length l s) other) ∙ h) in
    rw (binary-rest l other s i, length-drop) (omega (arith, e, block-end i l.rows (binary.row_size l) k))

-- what a walk refuses with
module _ (l : Layout) where
  pub here-tabled : (n : ℕ) (t : List ℕ) → RefusesTabled (check_here l n t)
  unfolding check_here
  here-tabled n t =
      let row = take (binary.row_size l) t in
      kind-only RefusalTabled l.kind (ascii_file.take_row l n t) (fine_here l n t) (text-laws.row-tabled l n t)
      (only_then RefusalTabled (binary.check_row l n row) (says (binary.row_size l)) (check-tabled l n row) (λ e. tt))

  pub start-tabled : (s : List ℕ) → RefusesTabled (start_fine l s)
  unfolding start_fine
  start-tabled s = kind-only RefusalTabled l.kind (says tt) (binary_file.check_length l s) tt (length-tabled l s)

  pub end-tabled : (n : ℕ) (t : List ℕ) → RefusesTabled (end_fine l n t)
  unfolding end_fine
  end-tabled n t = kind-only RefusalTabled l.kind (ascii_file.check_end n t) (says tt) (text-laws.end-tabled n t) tt
