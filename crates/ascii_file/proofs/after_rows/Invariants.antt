-- `ascii_file::after_rows` meets its contract. The loop's invariant: t is what follows as many rows as it had turns, and is no longer than the text.
use Rattle.ascii_file.specs.Files.{after_rows}
use lib.ListN.{length}
use Prim.Native.Nat.{◌≤◌}
use mathlib.Core.Path.{◌≡◌}
use Rattle.ascii_file.proofs.after_rows.Given as goal

abbrev pub invariant-loop : goal.invariant-loop
invariant-loop l = (length l.t ≤ length l.data) × (l.t ≡ after_rows l.counter l.data)
