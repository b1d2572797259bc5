-- `put_decimal` meets its contract. The loop's invariant: from i on stand the lowest digits of v, and x is what is left of v for the places before.
use mathlib.Core.Path.{◌≡◌, sym, ◌∙◌}
use native.Mathlib.Omega.{arith}
use Rattle.numerals.proofs.DecimalLaws.{decimal-low}
use Rattle.numerals.proofs.put_decimal.Goals as goal

pub returns : goal.returns
returns c = let z : c.loop-i.i ≡ 0 = omega arith in
    sym (decimal-low _ ∙ rw (← c.requires) (c.loop-i.invariant ∙ rw z))
