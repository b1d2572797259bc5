-- `put_rows` meets its contract. The loop's invariant: the lines of the rows before row i are put, and row i, which is fine as are all that follow, begins at `at`; so far there are at most
-- 16 characters for each byte that was passed.
use Prim.Native.Nat.{◌+◌, ◌-◌, ◌*◌, ◌≤◌}
use Rattle.pieces.specs.Inner.{Put}
use Rattle.list_text.specs.Listing.{rows_text}
use Rattle.list_text.proofs.RowLaws.{Walked}
use Rattle.list_text.proofs.put_rows.Given as goal

abbrev pub invariant-loop-i : goal.invariant-loop-i
invariant-loop-i l = (l.to ≤ l.n + 16 * l.at) × Walked l.layout l.dat (l.i - 1) l.at × Put l.initial.out l.n (rows_text l.layout l.dat (l.i - 1)) l.out l.to
