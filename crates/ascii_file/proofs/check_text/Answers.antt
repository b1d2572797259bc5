-- `ascii_file::check_text` meets its contract. The loop's invariant: the check of the file is that of the rows from row i on, counted from 0, with which t begins, and of the end.
use Rattle.ground.specs.Said.{says}
use Rattle.ascii_file.proofs.Laws.{takes_told, not-told, row-takes-told, rows-turn}
use Rattle.ascii_file.specs.Files.{take_row, check_lines, check_text}
use Rattle.ground.proofs.Walk.{rest}
use lib.ListN.{length-drop}
use native.Mathlib.Omega.{arith}
use Prim.Native.Nat.{◌+◌, ◌-◌}
use mathlib.Core.Path.{◌≡◌, sym, ◌∙◌}
use Rattle.ascii_file.proofs.check_text.Goals as goal
use Rattle.ascii_file.proofs.check_text.Goals.{In_ok-taken}

pub loop-i-init : goal.loop-i-init
loop-i-init c =
    let e : c.args.layout.rows + 1 - 1 ≡ c.args.layout.rows = omega arith in
    (omega arith, rw e)

pub returns-in_err-taken : goal.returns-in_err-taken
unfolding check_text
returns-in_err-taken c =
    let loop = c.loop-i in
    let layout = c.args.layout in
    let told = not-told (take_row layout (loop.i + 1) loop.t.now) c.in_err-taken.field-0.0 (sym c.take_row.ensures ∙ c.in_err-taken.was) in
    rw (loop.invariant.1, rows-turn _ loop.t.now (loop.i + 1) (layout.rows + 1) (omega (arith, c.loop-i-test.true)), told) (grind arith)

-- what the row takes
told : (c : In_ok-taken) → take_row c.args.layout (c.loop-i.i + 1) c.loop-i.t.now ≡ says c.in_ok-taken.taken
told c =
    let loop = c.loop-i in
    takes_told (take_row c.args.layout (loop.i + 1) loop.t.now) c.in_ok-taken.taken (sym c.take_row.ensures ∙ c.in_ok-taken.was)

pub slice_bounds-t-count : goal.slice_bounds-t-count
slice_bounds-t-count c =
    (row-takes-told c.args.layout (c.loop-i.i + 1) c.loop-i.t.now _ (told (goal.at.slice_bounds-t-count c).In_ok-taken)).within

pub slice_bounds-t-start : goal.slice_bounds-t-start
slice_bounds-t-start c = slice_bounds-t-count (goal.at.slice_bounds-t-start c).In_ok-taken

pub loop-i-preserved : goal.loop-i-preserved
loop-i-preserved c =
    let loop = c.loop-i in
    let rows = c.args.layout.rows in (
      rw (rest, length-drop) (omega arith),
      loop.invariant.1 ∙ rw (rows-turn _ loop.t.now (loop.i + 1) (rows + 1) (omega (arith, c.loop-i-test.true)), told (goal.at.loop-i-preserved c).In_ok-taken, rest),
    )

pub returns : goal.returns
unfolding check_text check_lines
returns c =
    let loop = c.loop-i in
    let rows = c.args.layout.rows in
    let e : loop.i ≡ rows = omega (arith, c.loop-i-test.false) in
    let none : rows + 1 - (rows + 1) ≡ 0 = omega arith in
    c.check_end.ensures ∙ rw (loop.invariant.1, e, none)
