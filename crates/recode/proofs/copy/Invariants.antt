-- `recode::copy` meets its contract. The loop's invariant: the first i bytes are copied, and the rest is as it was.
use mathlib.Core.Path.{◌≡◌}
use mathlib.Core.List.{◌++◌}
use lib.ListN.{length, get_or, drop}
use Rattle.ground.specs.Tables.{tab}
use Rattle.recode.proofs.copy.Given as goal

abbrev pub invariant-loop-i : goal.invariant-loop-i
invariant-loop-i l = (length l.d ≡ length l.initial.d) × (l.d ≡ tab (λ j. get_or l.b j 0) l.i ++ drop l.i l.initial.d)
