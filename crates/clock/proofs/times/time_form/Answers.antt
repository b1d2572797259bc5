-- `time_form` meets its contract.
use Prim.Native.Nat.{◌≤◌}
use lib.ListN.{length, length-take}
use mathlib.Core.Path.{sym, ◌∙◌}
use native.Mathlib.Omega.{arith}
use Rattle.numerals.proofs.CountLaws.{length-bounds}
use Rattle.clock.proofs.times.time_form.Goals as goal
use Rattle.clock.proofs.times.time_form.Goals.{Else-not-length_in}

-- the pattern is long enough
short : (c : Else-not-length_in) → length c.args.s.now ≤ 18
short c = (length-bounds 15 18 c.args.s.now (sym c.length_in.ensures ∙ c.if-not-length_in.false)).1

pub slice_bounds-pattern-end : goal.slice_bounds-pattern-end
slice_bounds-pattern-end c = short (goal.at.slice_bounds-pattern-end c).Else-not-length_in

pub slice_bounds-fits_pattern-end : goal.slice_bounds-fits_pattern-end
slice_bounds-fits_pattern-end c = simp length-take (omega (arith, short (goal.at.slice_bounds-fits_pattern-end c).Else-not-length_in))
