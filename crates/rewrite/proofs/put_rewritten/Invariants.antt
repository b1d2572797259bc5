-- `rewrite::put_rewritten` meets its contract. The loop's invariant: `at` is where line n begins, and what is put up to `to` is all but what the lines from it on are written as.
use Prim.Native.Nat.{◌≤◌}
use lib.ListN.{length, drop}
use Rattle.rewrite_lines.specs.Lines.{line_text}
use Rattle.rewrite_sorts.specs.Sorts.{sorts}
use Rattle.rewrite.specs.Rewrite.{lines_text, rewritten}
use Rattle.rewrite.proofs.PutLaws.{SoFar}
use Rattle.rewrite.proofs.put_rewritten.Given as goal

abbrev pub invariant-loop-n : goal.invariant-loop-n
invariant-loop-n l = (l.at ≤ length l.cfg)
    × SoFar l.initial.out l.out l.to (lines_text (line_text l.kind) (drop l.n (sorts l.config)) (drop l.at l.cfg)) (rewritten l.config l.kind l.cfg)
