-- `change_length::weigh_rows` meets its contract. The loop's invariant: t is what follows i rows, the check of all rows is that of those that are left, and the tally is that of i rows.
use Rattle.change_length.proofs.TallyLaws.{rest-turn, tally-turn}
use Rattle.model.specs.Layouts.{in_kind}
use Rattle.change_length.specs.Inner.{tally_of}
use Rattle.rows.proofs.WalkLaws.{rest-none, walk_turn, fine-taken, here-within, has-row}
use Rattle.rows.specs.Inner.{HasRow, check_here, end_fine, walk_fine}
use Rattle.ascii_file.proofs.Laws.{takes_told, not-told}
use Rattle.model.proofs.AnswerLaws.{yes-told, no-told}
use Rattle.ground.proofs.Walk.{rest}
use Rattle.ground.specs.Said.{says}
use lib.ListN.{length-drop}
use native.Mathlib.Omega.{arith}
use native.Mathlib.Nat.{sub-zero}
use Prim.Native.Nat.{◌+◌, ◌-◌}
use mathlib.Core.Path.{◌≡◌, sym, ◌∙◌}
use Rattle.std.proofs.Common.{Err}
use Rattle.change_length.proofs.weigh_rows.Goals as goal
use Rattle.change_length.proofs.weigh_rows.Goals.{After-weigh-tally, In_ok-taken, In-loop-i}

pub loop-i-init : goal.loop-i-init
unfolding tally_of
loop-i-init c =
    (omega arith, sym (rest-none c.args.layout c.args.«data».now), rw sub-zero, c.requires.2, rw c.requires.2 (omega arith))

-- a row is left
room : (c : In-loop-i) → HasRow c.args.layout c.loop-i.t.now
room c =
    let p = c.loop-i in
    rw p.invariant.1 (has-row c.args.layout c.args.«data».now c.requires.1 p.i c.loop-i-test.true)

pub check_here-requires : goal.check_here-requires
check_here-requires c = (c.requires.0, room (goal.at.check_here-requires c).In-loop-i)

pub returns-in_err-taken : goal.returns-in_err-taken
returns-in_err-taken c =
    let l = c.args.layout in
    let p = c.loop-i in
    let told = not-told (check_here l (p.i + 1) p.t.now) c.in_err-taken.field-0.0 (sym c.check_here.ensures ∙ c.in_err-taken.was) in
    let q : c.from_residual.result ≡ Err c.in_err-taken.field-0.0 = grind arith in
    (rw (p.invariant.2, walk_turn l p.t.now p.i l.rows c.loop-i-test.true, told) q, rw q tt)

pub weigh-tally-requires : goal.weigh-tally-requires
weigh-tally-requires c =
    let fit = c.requires.0 in
    (fit, room (goal.at.weigh-tally-requires c).In-loop-i, omega (arith, c.loop-i.invariant.4, c.loop-i-test.true))

-- what the row takes
told : (c : In_ok-taken)
    → let p = c.loop-i in
    check_here c.args.layout (p.i + 1) p.t.now ≡ says c.in_ok-taken.taken
told c =
    let p = c.loop-i in
    takes_told (check_here c.args.layout (p.i + 1) p.t.now) c.in_ok-taken.taken (sym c.check_here.ensures ∙ c.in_ok-taken.was)

pub slice_bounds-t-count : goal.slice_bounds-t-count
slice_bounds-t-count c =
    let l = c.args.layout in
    let p = c.loop-i in
    rw (← fine-taken l (p.i + 1) p.t.now c.in_ok-taken.taken (told (goal.at.slice_bounds-t-count c).In_ok-taken)) (here-within l p.t.now (room (goal.at.slice_bounds-t-count c).In-loop-i))

pub slice_bounds-t-start : goal.slice_bounds-t-start
slice_bounds-t-start c = slice_bounds-t-count (goal.at.slice_bounds-t-start c).After-weigh-tally

pub loop-i-preserved : goal.loop-i-preserved
loop-i-preserved c =
    let l = c.args.layout in
    let s = c.args.«data».now in
    let p = c.loop-i in
    let t = p.t.now in
    let i = p.i in
    let h = c.loop-i-test.true in
    let w = c.weigh-tally in
    let f = told (goal.at.loop-i-preserved c).In_ok-taken in (
      rw (rest, length-drop) (omega arith),
      rw rest (rest-turn l l s t i c.in_ok-taken.taken p.invariant.1 f),
      p.invariant.2 ∙ rw (walk_turn l t i l.rows h, f, rest),
      tally-turn l (in_kind c.args.kind l) s t i c.in_ok-taken.taken p.invariant.1 p.tally w.result p.invariant.3 w.ensures.0,
      omega (arith, w.ensures.1, p.invariant.4),
    )

pub returns : goal.returns
unfolding walk_fine
returns c =
    let l = c.args.layout in
    let fit = c.requires.0 in
    let p = c.loop-i in
    let h = c.loop-i-test.false in
    let e : l.rows - p.i ≡ 0 = omega (arith, h) in
    let i : p.i ≡ l.rows = omega (arith, h) in
    let told = yes-told (end_fine l (l.rows + 1) p.t.now) (sym c.end_fine.ensures ∙ c.in_ok-end_fine.was) in
    (rw (p.invariant.2, e, i, told, p.invariant.3, i), omega (arith, p.invariant.4))

pub returns-in_err-end_fine : goal.returns-in_err-end_fine
unfolding walk_fine
returns-in_err-end_fine c =
    let l = c.args.layout in
    let p = c.loop-i in
    let h = c.loop-i-test.false in
    let e : l.rows - p.i ≡ 0 = omega (arith, h) in
    let i : p.i ≡ l.rows = omega (arith, h) in
    let told = no-told (end_fine l (l.rows + 1) p.t.now) c.in_err-end_fine.field-0.0 (sym c.end_fine.ensures ∙ c.in_err-end_fine.was) in
    let q : c.from_residual-in_err-end_fine.result ≡ Err c.in_err-end_fine.field-0.0 = grind arith in
    (rw (p.invariant.2, e, i, told) q, rw q tt)
