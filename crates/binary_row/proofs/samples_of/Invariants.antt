-- `binary_row::samples_of` meets its contract. The loop's invariant: the first i places have their samples, and the rest is zero.
use mathlib.Core.Path.{◌≡◌}
use lib.IntN.{pos}
use Rattle.ground.specs.Tables.{padded}
use Rattle.binary_row.specs.Rows.{bytes_sample}
use Rattle.binary_row.proofs.samples_of.Given as goal

abbrev pub invariant-loop-i : goal.invariant-loop-i
invariant-loop-i l = l.out ≡ padded (bytes_sample l.width l.half l.b) l.i 96 (pos 0)
