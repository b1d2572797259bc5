-- `fields_length` meets its contract. The loop's invariant: the size so far and what the walk gives from here make the whole; the size is within the bytes, the field at most one ahead.
use mathlib.Core.Path.{◌≡◌}
use Prim.Native.Nat.{◌≤◌, ◌+◌}
use lib.ListN.{length, drop}
use Rattle.rewrite_lines.specs.Lines.{fields_text}
use Rattle.rewrite_lines.specs.Inner.{walked}
use Rattle.rewrite_lines.proofs.fields_length.Given as goal

abbrev pub invariant-loop-b : goal.invariant-loop-b
invariant-loop-b l = (l.size ≤ l.b-index) × (l.field ≤ l.b-index + 1) × (l.size + length (walked l.sort l.field l.leads (drop l.b-index l.line)) ≡ length (fields_text l.sort l.line))
