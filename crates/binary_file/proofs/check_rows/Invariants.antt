-- `binary_file::check_rows` meets its contract. The loop's invariant: the rows from i on say what all rows say.
use mathlib.Core.Path.{◌≡◌}
use Prim.Native.Nat.{◌-◌}
use Rattle.binary_file.specs.Files.{check_rows}
use Rattle.binary_file.proofs.check_rows.Given as goal

abbrev pub invariant-loop-i : goal.invariant-loop-i
invariant-loop-i l = check_rows l.layout l.data l.i (l.layout.rows - l.i) ≡ check_rows l.layout l.data 0 l.layout.rows
