-- `text::pass_eights` meets its contract. The loop's invariant: the scan of s comes to what the scan of what is left at 8 * n does.
use mathlib.Core.Path.{◌≡◌}
use Prim.Native.Nat.{◌*◌}
use lib.ListN.{drop}
use Rattle.text.specs.Lines.{line_from, scan_line}
use Rattle.text.proofs.pass_eights.Given as goal

abbrev pub invariant-loop-n : goal.invariant-loop-n
invariant-loop-n l = scan_line l.most l.s ≡ line_from l.most (8 * l.n) (drop (8 * l.n) l.s)
