-- `words::signed_of` meets its contract: below half n is kept, and from half on it is `!` of how many numbers come after it.
use Prim.Native.Nat.{suc, ◌+◌, ◌-◌}
use mathlib.Core.Path.{◌≡◌}
use native.Mathlib.Omega.{arith}
use mir.Syntax.{w32}
use mir.ValLaws.{to_z_pos}
use Rattle.words.proofs.MachineLaws.{flipped-size}
use Rattle.words.proofs.SignedLaws.{signed_low, signed_high}
use Rattle.words.proofs.signed_of.Goals as goal

pub returns-then-n-half : goal.returns-then-n-half
returns-then-n-half c = rw (signed_low c.args.half c.args.n c.if-n-half.true) (to_z_pos w32 c.args.n (omega arith))

pub returns-else-n-half : goal.returns-else-n-half
returns-else-n-half c =
    let h = c.args.half in
    let n = c.args.n in
    let e : h - 1 - (n - h) ≡ h + h - suc n = omega arith in
    rw (signed_high h n c.if-n-half.false, e) (flipped-size w32 (h + h - suc n) (omega arith))
