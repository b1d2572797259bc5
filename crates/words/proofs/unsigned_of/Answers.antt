-- `words::unsigned_of` meets its contract: a z from 0 on is kept, and below zero `!z` is how many numbers come after it.
use mathlib.Core.Path.{◌≡◌}
use Prim.Native.Nat.{◌-◌, ◌^◌}
use native.Mathlib.Omega.{arith}
use lib.IntN.{pos}
use lib.Signed.{mag}
use mir.Syntax.{w32}
use mir.Val.{to_z, of_z}
use Rattle.words.specs.Signed.{unsigned_of}
use Rattle.words.proofs.MachineLaws.{below, not-below, flipped, kept}
use Rattle.words.proofs.unsigned_of.Goals as goal
use Rattle.words.proofs.unsigned_of.Goals.{Else-z-lt0, Then-z-lt0}

flip : (c : Then-z-lt0) → to_z w32 (2 ^ 32 - 1 - of_z w32 c.args.z) ≡ pos (mag c.args.z)
flip c = flipped w32 c.args.z c.ranges.z c.if-z-lt0.true

keep : (c : Else-z-lt0) → to_z w32 (of_z w32 c.args.z) ≡ pos (mag c.args.z)
keep c = kept w32 c.args.z c.ranges.z c.if-z-lt0.false

pub overflow_cast-result : goal.overflow_cast-result
overflow_cast-result c = rw (flip c) (tt, omega arith)

pub overflow_sub-result-then-z-lt0 : goal.overflow_sub-result-then-z-lt0
overflow_sub-result-then-z-lt0 c = rw (flip c) (omega arith)

pub overflow_cast-result-else-z-lt0 : goal.overflow_cast-result-else-z-lt0
overflow_cast-result-else-z-lt0 c = rw (keep c) (tt, omega arith)

pub returns-then-z-lt0 : goal.returns-then-z-lt0
unfolding unsigned_of
returns-then-z-lt0 c = rw (flip c, below w32 c.args.z c.ranges.z c.if-z-lt0.true) (omega arith)

pub returns-else-z-lt0 : goal.returns-else-z-lt0
unfolding unsigned_of
returns-else-z-lt0 c = rw (keep c, not-below w32 c.args.z c.ranges.z c.if-z-lt0.false)
