-- `binary_row::unpack_words` meets its contract. The loop's invariant: the statuses of j words stand in the slice, and the rest is as it was.
use mathlib.Core.Path.{◌≡◌}
use mathlib.Core.List.{◌++◌}
use Prim.Native.Nat.{◌*◌, min}
use lib.ListN.{drop}
use Rattle.ground.specs.Tables.{tab}
use Rattle.binary_row.specs.Rows.{word_status}
use Rattle.binary_row.proofs.unpack_words.Given as goal

abbrev pub invariant-loop-j : goal.invariant-loop-j
invariant-loop-j l = l.d ≡ tab (word_status l.b) (min (l.j * 16) l.n) ++ drop (min (l.j * 16) l.n) l.initial.d
