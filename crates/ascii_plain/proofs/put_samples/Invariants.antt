-- `ascii_plain::put_samples` meets its contract. The loop's invariant: the slice begins with the samples so far, which end at from, and the rest is as it was.
use mathlib.Core.Path.{◌≡◌}
use mathlib.Core.List.{◌++◌}
use lib.ListN.{drop}
use Rattle.ground.specs.Tables.{cat}
use Rattle.ascii_plain.specs.Rows.{sample_text}
use Rattle.ascii_plain.specs.Inner.{samples_length}
use Rattle.ascii_plain.proofs.put_samples.Given as goal

abbrev pub invariant-loop-z : goal.invariant-loop-z
invariant-loop-z l = (l.from ≡ samples_length l.layout l.zs l.z-index) × (l.d ≡ cat (sample_text l.layout l.zs) l.z-index ++ drop l.from l.initial.d)
