-- `take_step` meets its contract: a line that was found lies in the text.
use Rattle.std.proofs.Common.{◌≤◌, length, sym, arith}
use mathlib.Core.Path.{◌∙◌}
use lib.ListN.{length-take}
use Rattle.config.proofs.StepLaws.{found-lies, found-told}
use Rattle.config.proofs.take_step.Goals as goal

pub slice_bounds-take_line-end : goal.slice_bounds-take_line-end
slice_bounds-take_line-end c =
    let h : c.in_ok-line.line.len ≤ length c.args.s.now = (found-lies c.last_rule-last.result c.args.s.now c.in_ok-line.line (sym c.next_line.ensures ∙ found-told c.next_line.result c.in_ok-line.line c.in_ok-line.ensures)).0 in
    rw length-take (omega arith)
