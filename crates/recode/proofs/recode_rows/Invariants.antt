-- `recode::recode_rows` meets its contract. The loop's invariant: the slice begins with i rows, and the rest is as it was.
use mathlib.Core.Path.{◌≡◌}
use Prim.Native.Nat.{◌+◌, ◌*◌}
use lib.ListN.{drop}
use mathlib.Core.List.{◌++◌}
use Rattle.ground.specs.Tables.{cat}
use Rattle.binary_bytes.specs.Rows.{binary_of}
use Rattle.binary_file.specs.Files.{binary_row}
use Rattle.model.specs.Layouts.{in_kind}
use Rattle.recode.proofs.recode_rows.Given as goal

abbrev pub invariant-loop-i : goal.invariant-loop-i
invariant-loop-i l = l.d ≡ cat (λ j. binary_of (in_kind l.new l.layout) (j + 1) (binary_row l.layout j l.data)) l.i ++ drop (l.i * l.fresh) l.initial.d
