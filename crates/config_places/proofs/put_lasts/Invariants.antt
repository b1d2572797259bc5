-- `config_places::put_lasts` meets its contract. The loop's invariant: the first i places have their last rows, and the rest is as it was.
use Rattle.ground.proofs.FillLaws.{Filled}
use lib.IntN.{pos}
use lib.ListN.{get_or}
use Rattle.config_places.proofs.put_lasts.Given as goal

abbrev pub invariant-loop-i : goal.invariant-loop-i
invariant-loop-i l = Filled (λ i'. pos (get_or l.lasts i' 0)) l.initial.d l.i l.d
