-- `binary_bytes::put_samples` meets its contract. The loop's invariant: the slice begins with the bytes of i samples, and the rest is as it was.
use mathlib.Core.Path.{◌≡◌}
use mathlib.Core.List.{◌++◌}
use Prim.Native.Nat.{◌*◌}
use lib.ListN.{drop}
use Rattle.ground.specs.Tables.{cat}
use Rattle.binary_bytes.specs.Rows.{sample_bytes}
use Rattle.binary_bytes.proofs.put_samples.Given as goal

abbrev pub invariant-loop-i : goal.invariant-loop-i
invariant-loop-i l = l.d ≡ cat (sample_bytes l.width l.half l.zs) l.i ++ drop (l.i * l.width) l.initial.d
