-- `binary_bytes::pack_word` meets its contract. The loop's invariant: the statuses are those that are left and others, and the word is that of the others.
use mathlib.Core.Path.{◌≡◌}
use mathlib.Core.List.{◌++◌}
use lib.ListN.{length, drop}
use Rattle.binary_bytes.specs.Rows.{packed}
use Rattle.binary_bytes.proofs.pack_word.Given as goal

abbrev pub invariant-loop-on : goal.invariant-loop-on
invariant-loop-on l =
    let left = l.on-iterator.iter.rest.now in
    (l.s ≡ left ++ drop (length left) l.s) × (l.word ≡ packed (drop (length left) l.s))
