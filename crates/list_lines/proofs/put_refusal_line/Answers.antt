-- `put_refusal_line` meets its contract: the pieces of the line, one after the other.
use Rattle.list_lines.specs.Lines.{refusal_line}
use Rattle.pieces.proofs.Laws.{put_then}
use Rattle.list_lines.proofs.put_refusal_line.Goals as goal

pub returns : goal.returns
unfolding refusal_line
returns c =
    rw (← c.number.ensures)
    (put_then (put_then (put_then c.put_named-number.ensures.put c.put_named-place.ensures.put) c.put_named-field.ensures.put) c.put_all.ensures)
