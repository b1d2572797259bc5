-- `may_write` meets its contract: each return is the test that led to it.
use Rattle.data.specs.Files.{has_row, misfit_of, write_said}
use Rattle.row_bytes.specs.Rows.{bytes_of}
use Rattle.row_bytes.proofs.RowLaws.{length-bytes}
use Rattle.model.proofs.FitLaws.{misfit-le}
use Rattle.model.proofs.LayoutLaws.{sized}
use Rattle.model.specs.Layouts.{is_sized, Sized}
use borrow.Author.Tests.{eq-eqb, le-leb, lt-leb}
use native.Mathlib.Omega.{arith}
use lib.ListN.{length}
use Prim.Native.Nat.{◌≤◌}
use mathlib.Core.Bool.{true}
use mathlib.Core.Path.{◌≡◌, sym, ◌∙◌}
use Rattle.data.proofs.may_write.Goals as goal
use Rattle.data.proofs.may_write.Goals.{After-first_misfit-bad, After-row_length-size, Else-not-has_row, Else-not-is_sized}

-- the layout is within the sizes
ok : (c : Else-not-is_sized) → is_sized c.args.layout ≡ true
ok c = sym c.is_sized.ensures ∙ c.if-not-is_sized.false

fit : (c : Else-not-is_sized) → Sized c.args.layout
fit c = sized c.args.layout (ok c)

-- the row is one of the file's
there : (c : Else-not-has_row) → has_row c.args.layout c.args.n ≡ true
there c = sym c.has_row.ensures ∙ c.if-not-has_row.false

pub first_misfit-bad-requires : goal.first_misfit-bad-requires
first_misfit-bad-requires c = let s = fit (goal.at.first_misfit-bad-requires c).Else-not-is_sized in omega arith

-- the first misfit is one of the samples, or there is none
found : (c : After-first_misfit-bad)
    → misfit_of c.args.layout c.args.row ≡ c.first_misfit-bad.result
unfolding misfit_of
found c = sym c.first_misfit-bad.ensures

small : (c : After-first_misfit-bad) → Sized c.args.layout → c.first_misfit-bad.result ≤ 96
small c s = rw c.first_misfit-bad.ensures (omega (arith, misfit-le c.args.layout c.args.row.samples))

pub overflow_cast-field : goal.overflow_cast-field
overflow_cast-field c = omega (arith, small c (fit (goal.at.overflow_cast-field c).Else-not-is_sized))

pub overflow_add-field : goal.overflow_add-field
overflow_add-field c = omega (arith, small c (fit (goal.at.overflow_add-field c).Else-not-is_sized))

pub row_length-size-requires : goal.row_length-size-requires
row_length-size-requires c = fit (goal.at.row_length-size-requires c).Else-not-is_sized

-- as many bytes as the row takes
size : (c : After-row_length-size)
    → c.row_length-size.result ≡ length (bytes_of c.args.layout c.args.n c.args.row)
size c =
    c.row_length-size.ensures ∙ length-bytes c.args.layout c.args.n c.args.row

pub returns-then-room-size : goal.returns-then-room-size
unfolding write_said
returns-then-room-size c =
    rw (c.refused-then-room-size.ensures, ok (goal.at.returns-then-room-size c).Else-not-is_sized, there (goal.at.returns-then-room-size c).Else-not-has_row, found (goal.at.returns-then-room-size c).After-first_misfit-bad, eq-eqb _ _ c.if-bad-a.false, ← size (goal.at.returns-then-room-size c).After-row_length-size, lt-leb _ _ c.if-room-size.true)

pub returns : goal.returns
unfolding write_said
returns c =
    rw (ok (goal.at.returns c).Else-not-is_sized, there (goal.at.returns c).Else-not-has_row, found (goal.at.returns c).After-first_misfit-bad, eq-eqb _ _ c.if-bad-a.false, ← size (goal.at.returns c).After-row_length-size, le-leb _ _ c.if-room-size.false, ← size (goal.at.returns c).After-row_length-size)
