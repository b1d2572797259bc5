-- `recode_samples::widen_all` meets its contract. The loop's invariant: the slice begins with i samples, and the rest is as it was.
use mathlib.Core.Path.{◌≡◌}
use mathlib.Core.List.{◌++◌}
use Rattle.recode_samples.specs.Inner.{recoded, bytes_at}
use Prim.Native.Nat.{◌*◌}
use lib.ListN.{drop}
use Rattle.ground.specs.Tables.{cat}
use Rattle.model.specs.declared.Kind.TheVariants.{Binary, Binary32}
use Rattle.recode_samples.proofs.widen_all.Given as goal

abbrev pub invariant-loop-i : goal.invariant-loop-i
invariant-loop-i l = l.d ≡ cat (λ j. recoded Binary Binary32 (bytes_at Binary l.b j)) l.i ++ drop (l.i * 4) l.initial.d
