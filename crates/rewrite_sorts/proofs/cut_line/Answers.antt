-- `rewrite_sorts::cut_line` meets its contract: the line and its end lie within the text.
use Rattle.rewrite_sorts.specs.Cuts.{cut_line}
use Rattle.rewrite_sorts.proofs.CutLaws.{cut-within}
use Rattle.rewrite_sorts.proofs.cut_line.Goals as goal

pub returns-clause-len_le_taken : goal.returns-clause-len_le_taken
unfolding cut_line
returns-clause-len_le_taken c = rw (c.unwrap_or.ensures, c.scan_last_line.ensures) (cut-within c.args.s.now)
