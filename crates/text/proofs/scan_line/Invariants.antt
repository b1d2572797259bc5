-- `text::scan_line` meets its contract. The loop's invariant: the scan of s comes to what the scan of what is left at i does, with i bytes passed.
-- Assumes nothing.
use mathlib.Core.Path.{◌≡◌}
use lib.ListN.{drop}
use Rattle.text.specs.Lines.{line_from, scan_line}
use Rattle.text.proofs.scan_line.Given as goal

abbrev pub invariant-loop-i : goal.invariant-loop-i
invariant-loop-i l = scan_line l.most l.s ≡ line_from l.most l.i (drop l.i l.s)
