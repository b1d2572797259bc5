-- `put_row_line` meets its contract: the pieces of the line, one after the other.
use native.Mathlib.Omega.{arith}
use Rattle.list_lines.specs.Lines.{row_line}
use Rattle.pieces.proofs.Laws.{put_then}
use Rattle.list_lines.proofs.put_row_line.Goals as goal

pub returns : goal.returns
unfolding row_line
returns c =
    let p = put_then (put_then (put_then c.put_count-number.ensures.put c.put_named-time.ensures.put) c.put_samples-samples.ensures.put) c.put_statuses-statuses.ensures.put in
    record { put = put_then p c.put_all.ensures; upper_bound = omega (arith, c.put_count-number.ensures.upper_bound, c.put_named-time.ensures.upper_bound, c.put_samples-samples.ensures.upper_bound, c.put_statuses-statuses.ensures.upper_bound, c.put_all.ensures.end) }
