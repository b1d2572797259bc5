-- `binary_row::unpack_word` meets its contract. The loop's invariant: the first i places have the low bits of the word, and the rest is as it was.
use mathlib.Core.Path.{◌≡◌}
use mathlib.Core.List.{◌++◌}
use lib.ListN.{drop}
use Rattle.ground.specs.Tables.{tab}
use Rattle.binary_row.specs.Rows.{bit_of}
use Rattle.binary_row.proofs.unpack_word.Given as goal

abbrev pub invariant-loop-i : goal.invariant-loop-i
invariant-loop-i l = l.d ≡ tab (bit_of l.word) l.i ++ drop l.i l.initial.d
