-- `plain_length` meets its contract: the minus is one character more.
use Rattle.std.specs.Prelude.{if◌then◌else◌}
use native.Mathlib.Omega.{arith}
use mathlib.Core.Path.{◌≡◌}
use mathlib.Core.List.{◌∷◌}
use Rattle.numerals.specs.Decimals.{decimal, plain}
use Rattle.numerals.proofs.PlainLaws.{length-decimal-le, plain-told}
use Rattle.numerals.proofs.plain_length.Goals as goal
use Rattle.numerals.proofs.plain_length.Goals.{After-below_zero}

-- how z is written, by the calls so far
told : (c : After-below_zero)
    → let size = c.size.result in plain c.args.z ≡ (if c.below_zero.result then 45 ∷ decimal size else decimal size)
told c =
    let size = c.size in
    plain-told c.args.z size.result c.below_zero.result c.ranges.z size.ensures c.below_zero.ensures

pub overflow_add-result : goal.overflow_add-result
overflow_add-result c = let h = length-decimal-le 19 c.size.result (omega (arith, c.size.type_inv)) in omega (arith, c.decimal_length-n.ensures)

pub returns-then-below_zero : goal.returns-then-below_zero
returns-then-below_zero c = rw (told (goal.at.returns-then-below_zero c).After-below_zero, c.if-below_zero.true) (omega (arith, c.decimal_length-n.ensures))

pub returns-else-below_zero : goal.returns-else-below_zero
returns-else-below_zero c = rw (told (goal.at.returns-else-below_zero c).After-below_zero, c.if-below_zero.false) c.decimal_length-n.ensures
