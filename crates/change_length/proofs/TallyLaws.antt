-- Laws of what is decided before a change.
--     tallied-length           a tally has the length that it is given
--     tally-length, tally-fit, settled     the tally of rows says whether they fit, and how long they are
--     mark-le                  the end mark is short
--     rest-turn, tally-turn    a turn of the walk over the rows
--     decided-walk             what is decided is what the walk and its tally say
--     walk-told, walk-refused  what the walk says, by its answer
-- Assumes nothing.
use mathlib.Core.Path.{◌≡◌, refl, sym, ap, ◌∙◌}
use mathlib.Core.List.{List, []}
use Prim.Native.Nat.{ℕ, zero, suc, ◌+◌, ◌≤◌}
use native.Mathlib.Nat.{add-zero}
use native.Mathlib.Numerals.{add-one}
use native.Mathlib.Omega.{arith}
use lib.Dec.{eqb}
use lib.ListN.{length, drop}
use Rattle.ground.specs.Said.{Said, says, refuses, ◌>>◌, must}
use Rattle.ground.proofs.Cases.{on_test}
use Rattle.model.specs.declared.Kind.{Kind}
use Rattle.model.specs.declared.Layout.{Layout}
use Rattle.model.specs.declared.Row.{Row}
use Rattle.model.specs.declared.Refusal.{Refusal}
use Rattle.model.specs.Layouts.{in_kind}
use Rattle.model.specs.Refusals.{refused}
use Rattle.data.specs.Files.{row_at, misfit_of, end_mark}
use Rattle.ascii_file.specs.Files.{mark}
use Rattle.row_bytes.proofs.KindLaws.{text-kind, binary-kind, by-kind}
use Rattle.rows.specs.Inner.{row_here, rest_of, check_here, start_fine, walk_fine}
use Rattle.rows.proofs.WalkLaws.{rest-next, row-here, fine-walk, fine-taken}
use Rattle.std.proofs.Common.{Err, None, Ok, Option, Some}
use Rattle.std.specs.Option.{option_or}
use Rattle.change_length.specs.declared.Misfit.{Misfit}
use Rattle.change_length.specs.declared.Tally.{Tally}
use Rattle.change_length.specs.Needed.{fit_row, fit_rows}
use Rattle.change_length.specs.Inner.{rows_length, file_length, row_misfit, tallied, weigh, tally_of, weighed_of, all_fit, settle, decided}

module _ (l : Layout) (r : ℕ → Row) where
  -- one row more at the end
  fit_next : (i m : ℕ) → fit_rows l r i (suc m) ≡ (fit_rows l r i m >> fit_row l (i + m + 1) (r (i + m)))
  unfolding fit_rows
  fit_next i zero = rw add-zero (then-fine (fit_row l (i + 1) (r i)))
    where
      then-fine : (x : Said Refusal (Unit {0})) → (x >> says tt) ≡ x
      then-fine (says tt) = refl
      then-fine (refuses q) = refl
  fit_next i (suc m) =
      let e : i + 1 + m ≡ i + suc m = omega arith in
      let n : fit_rows l r (i + 1) (suc m) ≡ (fit_rows l r (i + 1) m >> fit_row l (i + suc m + 1) (r (i + suc m))) = rw e at (fit_next (i + 1) m) in
      ap (λ (x : Said Refusal (Unit {0})). fit_row l (i + 1) (r i) >> x) n
      ∙ then-then (fit_row l (i + 1) (r i)) (fit_rows l r (i + 1) m) (fit_row l (i + suc m + 1) (r (i + suc m)))
    where
      then-then : (x y z : Said Refusal (Unit {0})) → (x >> (y >> z)) ≡ (x >> y >> z)
      then-then (says tt) y z = refl
      then-then (refuses q) y z = refl

  pub tally-length : (m : ℕ) → (tally_of l r m).length ≡ rows_length l r m
  unfolding tally_of rows_length weigh tallied
  tally-length zero = refl
  tally-length (suc m) = rw (tally-length m)

  -- what is known already, and then what row n says
  first-fit : (o : Option Misfit) (n bad a : ℕ)
      → (all_fit o >> must (eqb bad a) (refused 16 n (3 + bad))) ≡ all_fit (option_or o (row_misfit n bad a))
  first-fit (Some m) n bad a = refl
  first-fit None n bad a = on_test (eqb bad a) (λ f. rw f) (λ f. rw f)

  pub tally-fit : (m : ℕ) → fit_rows l r 0 m ≡ all_fit (tally_of l r m).misfit
  unfolding tally_of weigh tallied fit_rows
  tally-fit zero = refl
  tally-fit (suc m) =
      let z : 0 + m ≡ m = omega arith in
      let n : fit_rows l r 0 (suc m) ≡ (fit_rows l r 0 m >> fit_row l (m + 1) (r m)) = rw z at (fit_next 0 m) in
      n ∙ rw (tally-fit m) (first-fit (tally_of l r m).misfit (m + 1) (misfit_of l (r m)) l.analogs)

  pub settled : settle l (tally_of l r l.rows) ≡ (fit_rows l r 0 l.rows >> says (file_length l r))
  unfolding settle file_length
  settled = rw (tally-fit l.rows, tally-length l.rows)

pub decided-walk : (l : Layout) (s : List ℕ) (k : Kind)
    → decided l s k ≡ (start_fine l s >> (walk_fine l s 1 l.rows >> settle (in_kind k l) (tally_of (in_kind k l) (row_at l s) l.rows)))
unfolding decided
decided-walk l s k =
    let m = in_kind k l in
    rw (fine-walk l s, ← settled m (row_at l s)) (go (start_fine l s) (walk_fine l s 1 l.rows))
  where
    go : (x y : Said Refusal (Unit {0}))
        → ((x >> y) >> settle (in_kind k l) (tally_of (in_kind k l) (row_at l s) l.rows))
        ≡ (x >> (y >> settle (in_kind k l) (tally_of (in_kind k l) (row_at l s) l.rows)))
    go (says u) y = refl
    go (refuses r) y = refl

-- what the walk over all rows says, where it is told with a tally
pub walk-told : (x : Said Refusal (Unit {0})) (t u : Tally) → weighed_of x t ≡ Ok u → (x ≡ says tt) × (t ≡ u)
walk-told (says tt) t u e = (refl, cc)
walk-told (refuses r) t u e = (cc, cc)

pub walk-refused : (x : Said Refusal (Unit {0})) (t : Tally) (r : Refusal) → weighed_of x t ≡ Err r → x ≡ refuses r
walk-refused (says tt) t r e = cc
walk-refused (refuses q) t r e = cc

pub tallied-length : (t : Tally) (n bad a m : ℕ) → (tallied t n bad a m).length ≡ m
unfolding tallied
tallied-length t n bad a m = refl

pub mark-le : (l : Layout) → length (end_mark l) ≤ 3
unfolding end_mark
mark-le l =
    by-kind l.kind
    (λ e. rw (text-kind l.kind mark [] e) (omega arith))
    (λ e. rw (binary-kind l.kind mark [] e) (omega arith))

-- a turn of the walk: t is what follows i rows of s, and row i + 1, with which it begins, was fine, takes k bytes and was weighed
module _ (l m : Layout) (s t : List ℕ) (i k : ℕ) (here : t ≡ rest_of l s i) where
  pub rest-turn : check_here l (i + 1) t ≡ says k → drop k t ≡ rest_of l s (i + 1)
  rest-turn f = rw (rest-next l s i, ← here, fine-taken l (i + 1) t k f)

  pub tally-turn : (x y : Tally) → x ≡ tally_of m (row_at l s) i → y ≡ weigh m (i + 1) (row_here l t) x → y ≡ tally_of m (row_at l s) (i + 1)
  unfolding tally_of
  tally-turn x y e f =
      let q : weigh m (i + 1) (row_here l t) x ≡ weigh m (i + 1) (row_at l s i) (tally_of m (row_at l s) i) = rw (e, here, ← row-here l s i) in
      f ∙ q ∙ ap (tally_of m (row_at l s)) (sym (add-one i))
