-- `put_decimal` meets its contract. The loop's invariant: from i on stand the lowest digits of v, and x is what is left of v for the places before.
use mathlib.Core.Path.{◌≡◌}
use mathlib.Core.List.{◌++◌}
use lib.ListN.{length, drop}
use Rattle.numerals.proofs.DecimalLaws.{low_digits}
use Rattle.numerals.proofs.put_decimal.Given as goal

abbrev pub invariant-loop-i : goal.invariant-loop-i
invariant-loop-i l = low_digits (length l.initial.d) l.v ≡ low_digits l.i l.x ++ drop l.i l.d
