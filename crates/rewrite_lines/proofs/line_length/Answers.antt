-- `line_length` meets its contract: a length for each sort of line.
use native.Mathlib.Omega.{arith}
use Rattle.pieces.proofs.Laws.{kind-short}
use Rattle.rewrite_lines.specs.Lines.{line_text}
use Rattle.rewrite_lines.proofs.line_length.Goals as goal

pub returns-in-Word : goal.returns-in-Word
unfolding line_text
returns-in-Word c = rw c.in-Word.is record { value = c.kind_length.ensures; upper_bound = omega (arith, c.kind_length.ensures, kind-short c.args.kind) }
