-- `binary_bytes::put_words` meets its contract. The loop's invariant: the slice begins with the bytes of j words, and the rest is as it was.
use mathlib.Core.Path.{◌≡◌}
use mathlib.Core.List.{◌++◌}
use Prim.Native.Nat.{◌*◌}
use lib.ListN.{drop}
use Rattle.ground.specs.Tables.{cat}
use Rattle.binary_bytes.specs.Rows.{word_bytes_at}
use Rattle.binary_bytes.proofs.put_words.Given as goal

abbrev pub invariant-loop-j : goal.invariant-loop-j
invariant-loop-j l = l.d ≡ cat (word_bytes_at l.count l.s) l.j ++ drop (l.j * 2) l.initial.d
