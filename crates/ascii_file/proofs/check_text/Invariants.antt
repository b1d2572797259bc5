-- `ascii_file::check_text` meets its contract. The loop's invariant: the check of the file is that of the rows from row i on, counted from 0, with which t begins, and of the end.
use Rattle.ascii_file.specs.Files.{check_lines}
use lib.ListN.{length}
use Prim.Native.Nat.{◌≤◌, ◌+◌, ◌-◌}
use mathlib.Core.Path.{◌≡◌}
use Rattle.ascii_file.proofs.check_text.Given as goal

abbrev pub invariant-loop-i : goal.invariant-loop-i
invariant-loop-i l = (length l.t ≤ length l.data) × (check_lines l.layout l.data 1 l.rows ≡ check_lines l.layout l.t (l.i + 1) (l.rows + 1 - (l.i + 1)))
