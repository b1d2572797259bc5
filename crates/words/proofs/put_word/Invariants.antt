-- `words::put_word` meets its contract. The loop's invariant: the bytes before the place are those of n, the rest is as it was, and m is n
-- without as many low bytes.
use mathlib.Core.Path.{◌≡◌}
use mathlib.Core.List.{◌++◌}
use Prim.Native.Nat.{◌/◌, ◌^◌}
use lib.ListN.{drop}
use Rattle.words.specs.Words.{word_bytes}
use Rattle.words.proofs.put_word.Given as goal

abbrev pub invariant-loop-x : goal.invariant-loop-x
invariant-loop-x l = (l.m ≡ l.n / 256 ^ l.x-index) × (l.d ≡ word_bytes l.x-index l.n ++ drop l.x-index l.initial.d)
