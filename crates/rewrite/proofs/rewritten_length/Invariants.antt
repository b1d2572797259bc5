-- `rewrite::rewritten_length` meets its contract. The loop's invariant: `at` is where line n begins, and what the lines before it take with what those from it on take is what all take.
-- So far there are at most the bytes that were passed and ten for each line.
use mathlib.Core.Path.{◌≡◌}
use Prim.Native.Nat.{◌+◌, ◌*◌, ◌≤◌}
use lib.ListN.{length, drop}
use Rattle.rewrite_lines.specs.Lines.{line_text}
use Rattle.rewrite_sorts.specs.Sorts.{sorts}
use Rattle.rewrite.specs.Rewrite.{lines_text, rewritten}
use Rattle.rewrite.proofs.rewritten_length.Given as goal

abbrev pub invariant-loop-n : goal.invariant-loop-n
invariant-loop-n l = (l.at ≤ length l.cfg) × (l.size ≤ l.at + 10 * l.n)
    × (l.size + length (lines_text (line_text l.kind) (drop l.n (sorts l.config)) (drop l.at l.cfg)) ≡ length (rewritten l.config l.kind l.cfg))
