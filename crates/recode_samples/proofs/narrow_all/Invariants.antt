-- `recode_samples::narrow_all` meets its contract. The loop's invariant: the slice begins with i samples, and the rest is as it was.
use mathlib.Core.Path.{◌≡◌}
use mathlib.Core.List.{◌++◌}
use Prim.Native.Nat.{◌*◌}
use Rattle.recode_samples.specs.Inner.{recoded, bytes_at}
use lib.ListN.{drop}
use Rattle.ground.specs.Tables.{cat}
use Rattle.model.specs.declared.Kind.TheVariants.{Binary, Binary32}
use Rattle.recode_samples.proofs.narrow_all.Given as goal

abbrev pub invariant-loop-i : goal.invariant-loop-i
invariant-loop-i l = l.d ≡ cat (λ j. recoded Binary32 Binary (bytes_at Binary32 l.b j)) l.i ++ drop (l.i * 2) l.initial.d
