-- `put_named` meets its contract: the name, and then the decimal.
use native.Mathlib.Omega.{arith}
use Rattle.pieces.proofs.Laws.{put_then}
use Rattle.list_lines.proofs.put_named.Goals as goal

pub returns : goal.returns
returns c =
    record { put = put_then c.put_all-m.ensures c.put_count.ensures.put; upper_bound = omega (arith, c.put_all-m.ensures.end, c.put_count.ensures.upper_bound) }
