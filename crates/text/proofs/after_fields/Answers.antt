-- `text::after_fields` meets its contract. The loop's invariant: t is what follows as many fields as there were turns.
-- Assumes nothing.
use Rattle.text.proofs.FieldLaws.{taken-within, after_none, after_next}
use Rattle.ground.proofs.Walk.{rest}
use mathlib.Core.Path.{sym}
use Rattle.text.proofs.after_fields.Goals as goal
use Rattle.text.proofs.after_fields.Goals.{After-field_taken-m}

pub loop-init : goal.loop-init
loop-init c = sym (after_none c.args.line.now)

pub slice_bounds-t-count : goal.slice_bounds-t-count
slice_bounds-t-count c = rw c.field_taken-m.ensures (taken-within c.loop.t.now)

pub slice_bounds-t-start : goal.slice_bounds-t-start
slice_bounds-t-start c = slice_bounds-t-count (goal.at.slice_bounds-t-start c).After-field_taken-m

pub loop-preserved : goal.loop-preserved
loop-preserved c = rw (rest, after_next, ← c.loop.invariant, ← c.field_taken-m.ensures)
