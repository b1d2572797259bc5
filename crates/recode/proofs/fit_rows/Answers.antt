-- `recode::fit_rows` meets its contract. The loop's invariant: the rows from i on say what all rows say.
use lib.Dec.{eqb}
use native.Mathlib.Omega.{arith}
use mathlib.Core.Path.{◌≡◌, sym, ◌∙◌}
use Prim.Native.Nat.{◌+◌, ◌-◌, ◌*◌, ◌≤◌}
use lib.ListN.{length}
use native.Mathlib.Nat.{sub-zero}
use borrow.Author.Tests.{eq-eqb, ne_eqb}
use Rattle.ground.specs.Said.{◌>>◌, must}
use Rattle.model.specs.Layouts.{in_kind}
use Rattle.model.specs.Refusals.{refused}
use Rattle.model.proofs.FitLaws.{misfit-le}
use Rattle.binary_file.specs.Files.{binary_row}
use Rattle.binary_file.proofs.Laws.{row-end, row-length}
use Rattle.recode.specs.Inner.{fit_from, misfit_in}
use Rattle.recode.proofs.RowLaws.{fit-turn}
use Rattle.recode.proofs.fit_rows.Goals as goal
use Rattle.recode.proofs.fit_rows.Goals.{After-row_misfit-bad, In-loop-i}

pub loop-i-init : goal.loop-i-init
loop-i-init c = rw sub-zero

-- row i lies within the file
room : (c : In-loop-i)
    → let size = c.row_size-size.result in c.loop-i.i * size + size ≤ length c.args.«data».now
room c =
    rw c.row_size-size.ensures (row-end c.args.layout c.args.«data».now c.loop-i.i c.requires.1 (omega arith))

pub overflow_mul-from : goal.overflow_mul-from
overflow_mul-from c = omega (arith, room (goal.at.overflow_mul-from c).In-loop-i)

pub overflow_add-to : goal.overflow_add-to
overflow_add-to c = omega (arith, room (goal.at.overflow_add-to c).In-loop-i)

pub slice_bounds-row_misfit-end : goal.slice_bounds-row_misfit-end
slice_bounds-row_misfit-end c = room (goal.at.slice_bounds-row_misfit-end c).In-loop-i

pub row_misfit-bad-requires : goal.row_misfit-bad-requires
row_misfit-bad-requires c =
    let long = row-length c.args.layout c.args.«data».now c.loop-i.i c.requires.1 (omega arith) in
    (c.requires.0, rw c.row_size-size.ensures long, c.requires.2)

-- what row i says, and then what the rows after it say
found : (c : After-row_misfit-bad)
    → c.row_misfit-bad.result ≡ misfit_in c.args.layout c.args.new c.args.«data».now c.loop-i.i
unfolding misfit_in binary_row
found c = c.row_misfit-bad.ensures ∙ rw c.row_size-size.ensures

few : (c : After-row_misfit-bad) → c.row_misfit-bad.result ≤ c.args.layout.analogs
few c =
    rw c.row_misfit-bad.ensures (misfit-le (in_kind c.args.new c.args.layout) _)

step : (c : After-row_misfit-bad)
    → let i = c.loop-i.i in let n = c.row_misfit-bad.result in
    (must (eqb n c.args.layout.analogs) (refused 16 (i + 1) (3 + n)) >> fit_from c.args.layout c.args.new c.args.«data».now (i + 1) (c.args.layout.rows - (i + 1)))
    ≡ fit_from c.args.layout c.args.new c.args.«data».now 0 c.args.layout.rows
step c =
    let p = c.loop-i in
    rw (found c) (sym (fit-turn c.args.layout c.args.new c.args.«data».now p.i c.args.layout.rows (omega arith)) ∙ p.invariant)

pub overflow_cast-bad : goal.overflow_cast-bad
overflow_cast-bad c = omega (arith, few (goal.at.overflow_cast-bad c).After-row_misfit-bad, c.requires.0.analogs)

pub overflow_add-bad : goal.overflow_add-bad
overflow_add-bad c = omega (arith, few (goal.at.overflow_add-bad c).After-row_misfit-bad, c.requires.0.analogs)

pub returns-then-bad-a : goal.returns-then-bad-a
returns-then-bad-a c =
    rw (c.refused.ensures, ← step (goal.at.returns-then-bad-a c).After-row_misfit-bad, ne_eqb c.row_misfit-bad.result c.args.layout.analogs c.if-bad-a.true)

pub loop-i-preserved : goal.loop-i-preserved
loop-i-preserved c =
    rw (eq-eqb c.row_misfit-bad.result c.args.layout.analogs c.if-bad-a.false) at (step (goal.at.loop-i-preserved c).After-row_misfit-bad)

pub returns : goal.returns
unfolding fit_from
returns c =
    let e : c.args.layout.rows - c.loop-i.i ≡ 0 = omega arith in
    rw (← c.loop-i.invariant, e, fit_from)
