-- `words::word_of` meets its contract. The loop's invariant: v is what the bytes that were read hold.
use mathlib.Core.Path.{◌≡◌}
use Prim.Native.Nat.{◌≤◌, ◌-◌}
use lib.ListN.{length, drop}
use Rattle.words.specs.Words.{word_of}
use Rattle.words.proofs.word_of.Given as goal

abbrev pub invariant-loop-b : goal.invariant-loop-b
invariant-loop-b l = (length l.yielded ≤ length l.s) × (l.v ≡ word_of (drop (length l.s - length l.yielded) l.s))
