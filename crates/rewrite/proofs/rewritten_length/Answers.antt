-- `rewrite::rewritten_length` meets its contract. The loop's invariant: `at` is where line n begins, and what the lines before it take with what those from it on take is what all take.
-- So far there are at most the bytes that were passed and ten for each line.
use mathlib.Core.Path.{◌≡◌, ap}
use Prim.Native.Nat.{◌+◌, ◌-◌, ◌<◌}
use native.Mathlib.Nat.{zero-add}
use native.Mathlib.Omega.{arith}
use lib.ListN.{length, drop}
use Rattle.ground.specs.Tables.{part}
use Rattle.ground.proofs.Parts.{length_part, length-part-le}
use Rattle.rewrite_lines.specs.Lines.{line_text}
use Rattle.rewrite_sorts.specs.Sorts.{sorts}
use Rattle.rewrite.specs.Rewrite.{lines_text, rewritten}
use Rattle.rewrite.proofs.TurnLaws.{length-turn, lines-done}
use Rattle.rewrite.proofs.rewritten_length.Goals as goal

pub loop-n-init : goal.loop-n-init
unfolding rewritten
loop-n-init c = (omega arith, omega arith, zero-add _)

pub loop-n-preserved : goal.loop-n-preserved
loop-n-preserved c =
    let cut = c.cut_line-cut in
    let p = c.loop-n in
    let line = c.line_length.ensures in
    let s = c.args.cfg.now in
    let h : p.n < length (sorts c.args.config) = omega (arith, c.loop-n-test.true, c.line_count-lines.ensures.value) in
    let t = length-turn (line_text c.args.kind) (sorts c.args.config) s p.n p.at h c.sort_of.result cut.result c.sort_of.ensures cut.ensures.value in
    let end : length (part p.at (length s) s) ≡ length s - p.at = length_part p.at (length s) s (omega arith) in (
      omega (arith, cut.ensures.len_le_taken.1, end),
      omega (arith, line.upper_bound, cut.ensures.len_le_taken.0, p.invariant.1, length-part-le p.at (p.at + cut.result.len) s),
      omega (arith, t, line.value, p.invariant.2),
    )

pub returns : goal.returns
returns c =
    let p = c.loop-n in
    let e : length (lines_text (line_text c.args.kind) (drop p.n (sorts c.args.config)) (drop p.at c.args.cfg.now)) ≡ 0
    = ap length (lines-done (line_text c.args.kind) (sorts c.args.config) c.args.cfg.now p.n p.at (omega (arith, c.loop-n-test.false, c.line_count-lines.ensures.value))) in
    omega (arith, e, p.invariant.2)
