-- `to_places` meets its contract. The loop's invariant: w times the power of ten that is left is v * 10 ^ k.
use mathlib.Core.Path.{◌≡◌, ◌∙◌}
use Prim.Native.Nat.{◌+◌, ◌-◌, ◌*◌, ◌^◌}
use native.Mathlib.Nat.{mul_comm, mul-one}
use native.Mathlib.Omega.{arith}
use Rattle.reals.proofs.SizeLaws.{grow, shift}
use Rattle.reals.proofs.to_places.Goals as goal
use Rattle.reals.proofs.to_places.Goals.{In-loop}

-- one zero more
step : (c : In-loop) → c.loop.w * 10 * 10 ^ (c.args.k - (c.loop.counter + 1)) ≡ c.args.v * 10 ^ c.args.k
step c =
    let n = c.args.k - c.loop.counter in
    let e : c.args.k - (c.loop.counter + 1) ≡ n - 1 = omega arith in
    rw (e, mul_comm c.loop.w 10) (shift c.loop.w n (omega arith) ∙ c.loop.invariant)

pub overflow_mul-w : goal.overflow_mul-w
overflow_mul-w c = omega (arith, step (goal.at.overflow_mul-w c).In-loop, grow (c.loop.w * 10) (c.args.k - (c.loop.counter + 1)))

pub loop-preserved : goal.loop-preserved
loop-preserved c = step (goal.at.loop-preserved c).In-loop

pub returns : goal.returns
returns c = let z : c.args.k - c.loop.counter ≡ 0 = omega arith in rw (← c.loop.invariant, z, mul-one)
