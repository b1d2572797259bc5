-- `text::after_fields` meets its contract. The loop's invariant: t is what follows as many fields as there were turns.
-- Assumes nothing.
use Rattle.text.specs.Fields.{after_fields}
use mathlib.Core.Path.{◌≡◌}
use Rattle.text.proofs.after_fields.Given as goal

abbrev pub invariant-loop : goal.invariant-loop
invariant-loop l = l.t ≡ after_fields l.counter l.line
