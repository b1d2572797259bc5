-- Laws of the rows of a listing, and of the walk over the rows of a file that was accepted.
--     rows_next       the line of one row more
--     line-room       a row's line has at most 16 characters for each byte that the row takes
--     Walked          what is known at a row of such a file
--     walked_start, walked_row, walked_next     at the first row; that there is a row; and from one to the next
-- Assumes nothing.
use mathlib.Core.Path.{◌≡◌, sym, ◌∙◌}
use mathlib.Core.List.{List, [], ◌∷◌, ◌++◌}
use Prim.Native.Nat.{ℕ, suc, ◌+◌, ◌-◌, ◌*◌, ◌<◌, ◌≤◌}
use native.Mathlib.Nat.{sub-zero}
use native.Mathlib.Omega.{arith}
use borrow.Author.Tests.{eqb-true}
use lib.Dec.{eqb}
use lib.ListN.{length, take, drop, length-drop}
use lib.Seq.{length-take-le, drop-drop}
use Rattle.ground.specs.Said.{says}
use Rattle.ground.proofs.Cases.{on_test}
use Rattle.ground.proofs.SaidLaws.{must-told, then-told, bind-told}
use Rattle.text.specs.Fields.{commas, field_count}
use Rattle.model.specs.declared.Kind.{Kind}
use Rattle.model.specs.declared.Kind.TheVariants.{Ascii, Binary, Binary32}
use Rattle.model.specs.declared.Layout.{Layout}
use Rattle.model.specs.Kinds.{width_of}
use Rattle.model.specs.Refusals.{refused}
use Rattle.ascii_row.specs.Rows.{fields_of, check_line}
use Rattle.binary_row.specs.Rows.{row_size}
use Rattle.ascii_file.specs.Files.{scan_row, take_row, line_taken}
use Rattle.ascii_file.proofs.Laws.{row-takes-told}
use Rattle.row_bytes.proofs.KindLaws.{text-kind, binary-kind, by-kind}
use Rattle.data.specs.Files.{file_fine, row_at}
use Rattle.rows.specs.Inner.{taken_here, rest_of, HasRow, fine_here, check_here, start_fine, walk_fine}
use Rattle.rows.proofs.WalkLaws.{rest-none, rest-next, fine-walk, fine-taken, here-within, has-row}
use Rattle.list_lines.specs.Lines.{row_line}
use Rattle.list_lines.specs.Inner.{line_most}
use Rattle.pieces.proofs.Laws.{cat-next}
use Rattle.list_text.specs.Listing.{rows_text}

pub rows_next : (l : Layout) (s : List ℕ) (i : ℕ) → rows_text l s i ++ row_line l (i + 1) (row_at l s i) ≡ rows_text l s (i + 1)
unfolding rows_text
rows_next l s i = cat-next (λ j. row_line l (j + 1) (row_at l s j)) i

commas-le : (l : List ℕ) → commas l ≤ length l
commas-le [] = omega arith
commas-le (b ∷ l) = on_test (eqb b 44) (λ e. rw (commas, e) (omega (arith, commas-le l))) (λ e. rw (commas, e) (omega (arith, commas-le l)))

-- a line has as many fields as the layout says, and so at least a comma for each but one
line-long : (l : Layout) (n : ℕ) (line : List ℕ) → check_line l n line ≡ says tt → 1 + l.analogs + l.statuses ≤ length line
unfolding check_line field_count
line-long l n line e =
    let t = must-told (eqb (commas line + 1) (fields_of l)) (refused 14 n 0) _ tt e in
    omega (arith, eqb-true (commas line + 1) (fields_of l) t.0, commas-le line)

-- the two widths
wide : (k : Kind) (a : ℕ) → 2 * a ≤ a * width_of k
wide Ascii a = omega arith
wide Binary a = omega arith
wide Binary32 a = omega arith

size_room : (l : Layout) → line_most l ≤ 16 * row_size l
unfolding row_size
size_room l = omega (arith, wide l.kind l.analogs)

text-room : (l : Layout) (n : ℕ) (t : List ℕ) (k : ℕ) → take_row l n t ≡ says k → line_most l ≤ 16 * k
text-room l n t k e =
    let f = row-takes-told l n t k e in
    let h : f.len ≤ length t = omega (arith, f.takes, f.within) in
    omega (arith, line-long l n (take f.len t) f.line, length-take-le f.len t h, f.takes)

pub line-room : (l : Layout) (n : ℕ) (t : List ℕ) (k : ℕ) → check_here l n t ≡ says k → line_most l ≤ 16 * k
unfolding check_here taken_here
line-room l n t k e =
    by-kind l.kind
    (λ q. text-room l n t k (sym (text-kind l.kind (take_row l n t) (fine_here l n t) q) ∙ e))
    (λ q. let w : row_size l ≡ k = sym (binary-kind l.kind (line_taken (scan_row t)) (row_size l) q) ∙ fine-taken l n t k e in omega (arith, size_room l))

-- row i of a file s, counted from 0, begins at a place, and it and all that follow are fine
pub record Walked (l : Layout) (s : List ℕ) (i at : ℕ) : Type 0 where
  pub place : drop at s ≡ rest_of l s i
  pub within : at ≤ length s
  pub fine : walk_fine l (drop at s) (i + 1) (l.rows - i) ≡ says tt

module _ (l : Layout) (s : List ℕ) (accepted : file_fine l s ≡ says tt) where
  -- the file has its length, and its rows are fine
  told : (start_fine l s ≡ says tt) × (walk_fine l s 1 l.rows ≡ says tt)
  told = then-told (start_fine l s) (walk_fine l s 1 l.rows) tt (sym (fine-walk l s) ∙ accepted)

  pub walked_start : Walked l s 0 0
  walked_start = record { place = sym (rest-none l s); within = omega arith; fine = rw sub-zero told.1 }

  pub walked_row : (i at : ℕ) → Walked l s i at → i < l.rows → HasRow l (drop at s)
  walked_row i at w h = rw w.place (has-row l s told.0 i h)

  -- a row of several that are fine, and those after it
  rows_told : (n m : ℕ) (t : List ℕ) → walk_fine l t n (suc m) ≡ says tt → (k : ℕ) × (check_here l n t ≡ says k) × (walk_fine l (drop k t) (n + 1) m ≡ says tt)
  unfolding walk_fine
  rows_told n m t e = bind-told (check_here l n t) (λ k. walk_fine l (drop k t) (n + 1) m) tt e

  pub walked_next : (i at : ℕ) → Walked l s i at → i < l.rows → (line_most l ≤ 16 * taken_here l (drop at s)) × (Walked l s (i + 1) (at + taken_here l (drop at s)))
  walked_next i at w h =
      let t = drop at s in
      let e : l.rows - i ≡ suc (l.rows - (i + 1)) = omega arith in
      let b = rows_told (i + 1) (l.rows - (i + 1)) t (rw e at w.fine) in
      let k = fine-taken l (i + 1) t b.0 b.1 in
      let n = here-within l t (walked_row i at w h) in (
        rw k (line-room l (i + 1) t b.0 b.1),
        record {
          place = sym (drop-drop (taken_here l t) at s) ∙ rw w.place (sym (rest-next l s i));
          within = omega (arith, n, length-drop at s, w.within);
          fine = rw (← drop-drop, k) b.2;
        },
      )
