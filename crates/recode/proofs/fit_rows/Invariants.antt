-- `recode::fit_rows` meets its contract. The loop's invariant: the rows from i on say what all rows say.
use mathlib.Core.Path.{◌≡◌}
use Prim.Native.Nat.{◌-◌}
use Rattle.recode.specs.Inner.{fit_from}
use Rattle.recode.proofs.fit_rows.Given as goal

abbrev pub invariant-loop-i : goal.invariant-loop-i
invariant-loop-i l = fit_from l.layout l.new l.data l.i (l.layout.rows - l.i) ≡ fit_from l.layout l.new l.data 0 l.layout.rows
