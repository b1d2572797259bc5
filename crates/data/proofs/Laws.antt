-- Laws of what an answer says of the rule that gave it.
--     row_told                    a row that there is
--     accepted-fine               a file that is accepted is of a sized layout, and fine
--     writable                    what is said where a row is written, and what that says of the layout, the row and the room
-- Assumes nothing.
use mathlib.Core.Path.{◌≡◌}
use mathlib.Core.Bool.{true}
use mathlib.Core.List.{List}
use Prim.Native.Nat.{ℕ, ◌+◌, ◌≤◌}
use borrow.Author.Tests.{eqb-true, leb-true}
use lib.Dec.{eqb, leb}
use lib.ListN.{length}
use Rattle.ground.specs.Said.{says, ◌>>◌, must}
use Rattle.ground.proofs.Every.{and_split}
use Rattle.ground.proofs.SaidLaws.{must-told}
use Rattle.model.specs.declared.Layout.{Layout}
use Rattle.model.specs.declared.Row.{Row}
use Rattle.std.proofs.Common.{Ok}
use Rattle.model.specs.Editions.{has_kind}
use Rattle.model.specs.Layouts.{is_sized, Sized}
use Rattle.model.specs.Refusals.{refused}
use Rattle.model.proofs.AnswerLaws.{yes-told}
use Rattle.model.proofs.LayoutLaws.{sized, sized-has}
use Rattle.row_bytes.specs.Rows.{bytes_of}
use Rattle.data.specs.Files.{file_fine, has_row, misfit_of, check_file, write_said}

pub row_told : (l : Layout) (n : ℕ) → has_row l n ≡ true → (1 ≤ n) × (n ≤ l.rows)
unfolding has_row
row_told l n e =
    let s = and_split (leb 1 n) (leb n l.rows) e in
    (leb-true 1 n s.0, leb-true n l.rows s.1)

pub accepted-fine : (l : Layout) (s : List ℕ) → check_file l s ≡ Ok tt → (is_sized l ≡ true) × (file_fine l s ≡ says tt)
unfolding check_file
accepted-fine l s e = must-told (is_sized l) (refused 10 0 0) (file_fine l s) tt (yes-told _ e)

-- row r, the n-th, is written in these bytes, where there is room for so many
pub record Writable (l : Layout) (n : ℕ) (r : Row) (room : ℕ) (new : List ℕ) : Type 0 where
  pub fit : Sized l
  pub has : has_kind l.edition l.kind ≡ true
  pub there : has_row l n ≡ true
  pub all : misfit_of l r ≡ l.analogs
  pub bytes : new ≡ bytes_of l n r
  pub within : length new ≤ room

pub writable : (l : Layout) (n : ℕ) (r : Row) (room : ℕ) (new : List ℕ) → write_said l n r room ≡ says new → Writable l n r room new
unfolding write_said
writable l n r room new e =
    let i = misfit_of l r in
    let k = bytes_of l n r in
    let roomy = must (leb (length k) room) (refused 17 0 0) >> says k in
    let fitting = must (eqb i l.analogs) (refused 16 n (3 + i)) >> roomy in
    let there = must (has_row l n) (refused 15 0 0) >> fitting in
    let a = must-told (is_sized l) (refused 10 0 0) there new e in
    let b = must-told (has_row l n) (refused 15 0 0) fitting new a.1 in
    let c = must-told (eqb i l.analogs) (refused 16 n (3 + i)) roomy new b.1 in
    let d = must-told (leb (length k) room) (refused 17 0 0) (says k) new c.1 in
    let s : new ≡ k = cc d.1 in
    record { fit = sized l a.0; has = sized-has l a.0; there = b.0; all = eqb-true i l.analogs c.0; bytes = s; within = rw s (leb-true (length k) room d.0) }
