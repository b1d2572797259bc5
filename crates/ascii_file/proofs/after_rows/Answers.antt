-- `ascii_file::after_rows` meets its contract. The loop's invariant: t is what follows as many rows as it had turns, and is no longer than the text.
use Rattle.ascii_file.proofs.Laws.{line-taken-within, rows_none, rows-after}
use Rattle.ground.proofs.Walk.{rest}
use lib.ListN.{length-drop}
use native.Mathlib.Omega.{arith}
use mathlib.Core.Path.{◌≡◌, sym}
use Rattle.ascii_file.proofs.after_rows.Goals as goal
use Rattle.ascii_file.proofs.after_rows.Goals.{After-line_taken-m}

pub loop-init : goal.loop-init
loop-init c = (omega arith, sym (rows_none c.args.«data».now))

pub slice_bounds-t-count : goal.slice_bounds-t-count
slice_bounds-t-count c = rw c.line_taken-m.ensures (line-taken-within c.loop.t.now)

pub slice_bounds-t-start : goal.slice_bounds-t-start
slice_bounds-t-start c = slice_bounds-t-count (goal.at.slice_bounds-t-start c).After-line_taken-m

pub loop-preserved : goal.loop-preserved
loop-preserved c = (
  rw (rest, length-drop) (omega arith),
  rw (rest, rows-after, ← c.loop.invariant.1, ← c.line_taken-m.ensures),
)

pub returns : goal.returns
returns c = let e : c.loop.counter ≡ c.args.i = omega arith in rw (← e) c.loop.invariant.1
