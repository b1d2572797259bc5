-- `put_plain` meets its contract: the minus is the first character, and the digits of the size fill the rest.
use Rattle.std.specs.Prelude.{if◌then◌else◌}
use native.Mathlib.Omega.{arith}
use mathlib.Core.Path.{◌≡◌, ◌∙◌}
use mathlib.Core.List.{◌∷◌}
use Prim.Native.Nat.{◌+◌}
use lib.ListN.{length, length-set, length-drop}
use Rattle.ground.proofs.Walk.{rest}
use Rattle.ground.proofs.Parts.{put_first}
use Rattle.numerals.specs.Decimals.{decimal, plain}
use Rattle.numerals.proofs.PlainLaws.{plain-told}
use Rattle.numerals.proofs.put_plain.Goals as goal
use Rattle.numerals.proofs.put_plain.Goals.{After-below_zero, Then-below_zero}

-- how z is written, by the calls so far
told : (c : After-below_zero) → plain c.args.z ≡ (if c.below_zero.result then 45 ∷ decimal c.size-v.result else decimal c.size-v.result)
told c = plain-told c.args.z c.size-v.result c.below_zero.result c.ranges.z c.size-v.ensures c.below_zero.ensures

-- and so how long the part is
long : (c : Then-below_zero) → length c.args.d.now ≡ 1 + length (decimal c.size-v.result)
long c = c.requires ∙ rw (plain-told c.args.z c.size-v.result c.below_zero.result c.ranges.z c.size-v.ensures c.below_zero.ensures, c.if-below_zero.true) (omega arith)

pub bounds-d-0 : goal.bounds-d-0
bounds-d-0 c = omega (arith, long c)

pub slice_bounds-put_decimal-count : goal.slice_bounds-put_decimal-count
slice_bounds-put_decimal-count c = rw length-set (omega (arith, long c))

pub slice_bounds-put_decimal-start : goal.slice_bounds-put_decimal-start
slice_bounds-put_decimal-start c = rw length-set (omega (arith, long c))

pub put_decimal-requires : goal.put_decimal-requires
put_decimal-requires c = rw (rest, length-drop, length-set) (omega (arith, long (goal.at.put_decimal-requires c).Then-below_zero))

pub put_decimal-requires-else-below_zero : goal.put_decimal-requires-else-below_zero
put_decimal-requires-else-below_zero c = c.requires ∙ rw (told (goal.at.put_decimal-requires-else-below_zero c).After-below_zero, c.if-below_zero.false)

pub shape_of-d-then-below_zero : goal.shape_of-d-then-below_zero
shape_of-d-then-below_zero c =
    let put = c.put_decimal in
    rw (put_first c.args.d.now put.new.d 45 (omega (arith, long (goal.at.shape_of-d-then-below_zero c).Then-below_zero)), put.ensures) (omega (arith, long (goal.at.shape_of-d-then-below_zero c).Then-below_zero))

pub returns-then-below_zero : goal.returns-then-below_zero
returns-then-below_zero c =
    let put = c.put_decimal in
    rw (put_first c.args.d.now put.new.d 45 (omega (arith, long (goal.at.returns-then-below_zero c).Then-below_zero)), put.ensures, told (goal.at.returns-then-below_zero c).After-below_zero, c.if-below_zero.true)

pub returns-else-below_zero : goal.returns-else-below_zero
returns-else-below_zero c = rw (c.put_decimal-else-below_zero.ensures, told (goal.at.returns-else-below_zero c).After-below_zero, c.if-below_zero.false)
