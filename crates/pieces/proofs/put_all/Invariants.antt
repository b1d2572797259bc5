-- `put_all` meets its contract. The loop's invariant: the first i bytes of s stand after the first n of what there was, and what follows stays.
use mathlib.Core.Path.{◌≡◌}
use mathlib.Core.List.{◌++◌}
use Prim.Native.Nat.{◌+◌}
use lib.ListN.{length, take, drop}
use Rattle.pieces.proofs.put_all.Given as goal

abbrev pub invariant-loop-i : goal.invariant-loop-i
invariant-loop-i l = (length l.out ≡ length l.initial.out) × (take (l.n + l.i) l.out ≡ take l.n l.initial.out ++ take l.i l.s) × (drop (l.n + l.i) l.out ≡ drop (l.n + l.i) l.initial.out)
