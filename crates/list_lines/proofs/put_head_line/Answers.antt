-- `put_head_line` meets its contract: the pieces of the first line, one after the other.
use native.Mathlib.Omega.{arith}
use Rattle.list_lines.specs.Lines.{head_line}
use Rattle.pieces.proofs.Laws.{put_then, kind-short}
use Rattle.list_lines.proofs.put_head_line.Goals as goal

pub put_kind-word-requires : goal.put_kind-word-requires
put_kind-word-requires c = omega (arith, kind-short c.args.layout.kind, c.put_all-space.ensures.end, c.put_named-a.ensures.upper_bound, c.put_named-d.ensures.upper_bound, c.put_named-rows.ensures.upper_bound)

pub returns : goal.returns
unfolding head_line
returns c =
    let counts = put_then (put_then c.put_named-a.ensures.put c.put_named-d.ensures.put) c.put_named-rows.ensures.put in
    let line = put_then (put_then (put_then counts c.put_all-space.ensures) c.put_kind-word.ensures.put) c.put_all.ensures in
    record { put = line; upper_bound = omega (arith, c.put_named-a.ensures.upper_bound, c.put_named-d.ensures.upper_bound, c.put_named-rows.ensures.upper_bound, c.put_all-space.ensures.end, c.put_kind-word.ensures.upper_bound, c.put_all.ensures.end) }
