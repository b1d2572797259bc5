-- `recode_samples::find_stray` meets its contract. The loop's invariant: the search from i on finds what the whole search does.
use mathlib.Core.Path.{◌≡◌}
use Rattle.ground.specs.Search.{fails_from}
use Rattle.recode_samples.proofs.SampleLaws.{narrow}
use Prim.Native.Nat.{◌-◌}
use Rattle.recode_samples.specs.Inner.{first_stray}
use Rattle.recode_samples.proofs.find_stray.Given as goal

abbrev pub invariant-loop-i : goal.invariant-loop-i
invariant-loop-i l = fails_from (narrow l.b l.a) l.i (l.a - l.i) ≡ first_stray l.a l.b
