-- `binary_file::check_rows` meets its contract. The loop's invariant: the rows from i on say what all rows say.
use mathlib.Core.Path.{◌≡◌, sym, ◌∙◌}
use Prim.Native.Nat.{◌≤◌, ◌*◌, ◌-◌, ◌+◌}
use native.Mathlib.Nat.{sub-zero}
use native.Mathlib.Omega.{arith}
use lib.ListN.{length}
use Rattle.ground.specs.Said.{Said, ◌>>◌, answer_of}
use Rattle.model.specs.declared.Refusal.{Refusal}
use Rattle.model.proofs.AnswerLaws.{yes-told, no-told}
use Rattle.binary_row.specs.Rows.{check_row}
use Rattle.binary_file.specs.Files.{row_bytes, check_rows}
use Rattle.binary_file.proofs.Laws.{row-end, row-length, rows-turn}
use Rattle.binary_file.proofs.check_rows.Goals as goal
use Rattle.binary_file.proofs.check_rows.Goals.{After-check_row, In-loop-i}

pub loop-i-init : goal.loop-i-init
loop-i-init c = rw sub-zero

-- row i lies within the file
room : (c : In-loop-i)
    → let size = c.row_size-size.result in c.loop-i.i * size + size ≤ length c.args.«data».now
room c =
    rw c.row_size-size.ensures (row-end c.args.layout c.args.«data».now c.loop-i.i c.requires.1 (omega arith))

pub overflow_mul-from : goal.overflow_mul-from
overflow_mul-from c = omega (arith, room (goal.at.overflow_mul-from c).In-loop-i)

pub overflow_add-to : goal.overflow_add-to
overflow_add-to c = omega (arith, room (goal.at.overflow_add-to c).In-loop-i)

pub slice_bounds-check_row-end : goal.slice_bounds-check_row-end
slice_bounds-check_row-end c = room (goal.at.slice_bounds-check_row-end c).In-loop-i

pub check_row-requires : goal.check_row-requires
check_row-requires c =
    (c.requires.0, rw c.row_size-size.ensures (row-length c.args.layout c.args.«data».now c.loop-i.i c.requires.1 (omega arith)))

-- what row i says
abbrev here : After-check_row → Said Refusal (Unit {0})
here c =
    check_row c.args.layout (c.loop-i.i + 1) (row_bytes c.args.layout c.loop-i.i c.args.«data».now)

answered : (c : After-check_row) → answer_of (here c) ≡ c.check_row.result
answered c = sym (c.check_row.ensures ∙ rw c.row_size-size.ensures)

-- and then what the rows after it say
step : (c : After-check_row) → (here c >> check_rows c.args.layout c.args.«data».now (c.loop-i.i + 1) (c.args.layout.rows - (c.loop-i.i + 1))) ≡ check_rows c.args.layout c.args.«data».now 0 c.args.layout.rows
step c =
    rw (← rows-turn c.args.layout c.args.«data».now c.loop-i.i c.args.layout.rows (omega arith)) c.loop-i.invariant

pub returns-in_err-check_row : goal.returns-in_err-check_row
returns-in_err-check_row c =
    let b = (goal.at.returns-in_err-check_row c).After-check_row in
    rw (← step b, no-told (here b) c.in_err-check_row.field-0.0 (answered b ∙ c.in_err-check_row.was)) (grind arith)

pub loop-i-preserved : goal.loop-i-preserved
loop-i-preserved c = rw (yes-told (here (goal.at.loop-i-preserved c).After-check_row) (answered (goal.at.loop-i-preserved c).After-check_row ∙ c.in_ok-check_row.was)) at (step (goal.at.loop-i-preserved c).After-check_row)

pub returns : goal.returns
unfolding check_rows
returns c =
    let e : c.args.layout.rows - c.loop-i.i ≡ 0 = omega arith in
    rw (← c.loop-i.invariant, e, check_rows)
