-- `fraction_of` meets its contract: the digits and the power of ten have 9 digits together.
use mathlib.Core.Path.{◌≡◌, sym, ◌∙◌}
use Prim.Native.Nat.{◌+◌, ◌-◌, ◌*◌, ◌^◌, ◌<◌}
use native.Mathlib.Nat.{mul-lt-mul_of_pos_right, one-le-pow}
use Rattle.std.proofs.lemmas.Nat.{pow-add}
use native.Mathlib.Omega.{arith}
use lib.Dec.{lit<}
use lib.ListN.{length}
use Rattle.clock.specs.Times.{fraction_of}
use Rattle.patterns.proofs.PatternLaws.{digits_lt}
use Rattle.clock.proofs.times.fraction_of.Goals as goal

pub overflow_mul-result : goal.overflow_mul-result
overflow_mul-result c =
    let s = c.args.s.now in
    let k = length s - 9 in
    let j = 18 - length s in
    let e : k + j ≡ 9 = omega arith in
    let n : c.digits_at-n.result < 10 ^ k = rw c.digits_at-n.ensures (digits_lt 9 (length s) k s (omega arith)) in
    let p : c.digits_at-n.result * 10 ^ j < 10 ^ k * 10 ^ j = mul-lt-mul_of_pos_right n (one-le-pow j 10 (lit< tt)) in
    let q : 10 ^ k * 10 ^ j ≡ 10 ^ 9 = sym (pow-add 10 k j) ∙ rw e in
    rw c.pow.ensures (omega (arith, p, q))

pub returns : goal.returns
unfolding fraction_of
returns c = rw (c.digits_at-n.ensures, c.pow.ensures)
