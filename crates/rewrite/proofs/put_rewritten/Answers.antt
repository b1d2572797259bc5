-- `rewrite::put_rewritten` meets its contract. The loop's invariant: `at` is where line n begins, and what is put up to `to` is all but what the lines from it on are written as.
use mathlib.Core.Path.{◌≡◌}
use mathlib.Core.List.{[], ◌∷◌, ◌++◌}
use Prim.Native.Nat.{◌+◌, ◌-◌, ◌<◌}
use native.Mathlib.Omega.{arith}
use lib.ListN.{length, drop, length-append}
use Rattle.ground.specs.Tables.{part}
use Rattle.ground.proofs.Parts.{length_part}
use Rattle.rewrite_lines.specs.Lines.{line_text}
use Rattle.rewrite_sorts.specs.Sorts.{sorts}
use Rattle.rewrite.specs.Rewrite.{lines_text, rewritten}
use Rattle.rewrite.proofs.PutLaws.{SoFar, so-far-start, so-far-room, so-far-next, so-far-end}
use Rattle.rewrite.proofs.TurnLaws.{lines-ended, lines-done}
use Rattle.rewrite.proofs.put_rewritten.Goals as goal
use Rattle.rewrite.proofs.put_rewritten.Goals.{After-put_ended-arg-in-loop-n-1}

pub loop-n-init : goal.loop-n-init
unfolding rewritten
loop-n-init c = (omega arith, so-far-start _ _)

-- the next line with its end, and then the others
turn : (c : After-put_ended-arg-in-loop-n-1)
    → let p = c.loop-n in let cut = c.cut_line-cut.result in
    SoFar c.args.out.now p.out p.to
    ((line_text c.args.kind c.sort_of.result (part p.at (p.at + cut.len) c.args.cfg.now) ++ 13 ∷ 10 ∷ [])
    ++ lines_text (line_text c.args.kind) (drop (p.n + 1) (sorts c.args.config)) (drop (p.at + cut.taken) c.args.cfg.now)) (rewritten c.args.config c.args.kind c.args.cfg.now)
turn c =
    let p = c.loop-n in
    let sort = c.sort_of in
    let cut = c.cut_line-cut in
    let h : p.n < length (sorts c.args.config) = omega (arith, c.loop-n-test.true, c.line_count-lines.ensures.value) in
    rw (← lines-ended (line_text c.args.kind) (sorts c.args.config) c.args.cfg.now p.n p.at h sort.result cut.result sort.ensures cut.ensures.value) p.invariant.1

pub put_ended-to-requires : goal.put_ended-to-requires
put_ended-to-requires c =
    let p = c.loop-n in
    let cut = c.cut_line-cut.result in
    let line = line_text c.args.kind c.sort_of.result (part p.at (p.at + cut.len) c.args.cfg.now) in
    let others = lines_text (line_text c.args.kind) (drop (p.n + 1) (sorts c.args.config)) (drop (p.at + cut.taken) c.args.cfg.now) in
    omega (arith, so-far-room (line ++ 13 ∷ 10 ∷ []) others (turn (goal.at.put_ended-to-requires c).After-put_ended-arg-in-loop-n-1), length-append line (13 ∷ 10 ∷ []), c.requires)

pub loop-n-preserved : goal.loop-n-preserved
loop-n-preserved c =
    let put = c.put_ended-to in
    let p = c.loop-n in
    let s = c.args.cfg.now in
    let end : length (part p.at (length s) s) ≡ length s - p.at = length_part p.at (length s) s (omega arith) in (
      omega (arith, c.cut_line-cut.ensures.len_le_taken.1, end),
      so-far-next _ _ (turn (goal.at.loop-n-preserved c).After-put_ended-arg-in-loop-n-1) put.ensures,
    )

pub returns : goal.returns
returns c =
    let p = c.loop-n in
    let e = lines-done (line_text c.args.kind) (sorts c.args.config) c.args.cfg.now p.n p.at (omega (arith, c.loop-n-test.false, c.line_count-lines.ensures.value)) in
    so-far-end (rw e at p.invariant.1)
