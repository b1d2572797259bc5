-- `put_fields` meets its contract. The loop's invariant: what is put and what the walk gives from here make the whole; the field is at most one ahead of the bytes.
use mathlib.Core.Path.{◌≡◌}
use mathlib.Core.List.{List, ◌++◌}
use Prim.Native.Nat.{ℕ, ◌≤◌, ◌+◌}
use lib.ListN.{drop}
use Rattle.pieces.specs.Inner.{Put}
use Rattle.rewrite_lines.specs.Lines.{fields_text}
use Rattle.rewrite_lines.specs.Inner.{walked}
use Rattle.rewrite_lines.proofs.put_fields.Given as goal

abbrev pub invariant-loop-b : goal.invariant-loop-b
invariant-loop-b l = (l.field ≤ l.b-index + 1)
    × ((done : List ℕ) × Put l.initial.out l.n done l.out l.to × (done ++ walked l.sort l.field l.leads (drop l.b-index l.line) ≡ fields_text l.sort l.line))
