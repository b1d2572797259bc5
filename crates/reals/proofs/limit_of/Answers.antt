-- `limit_of` meets its contract.
use Prim.Native.Nat.{◌≤◌}
use native.Mathlib.Omega.{arith}
use Rattle.reals.specs.Forms.{real_form}
use Rattle.std.proofs.Common.{Some, ◌≡◌}
use Rattle.reals.proofs.FormLaws.{form-bounds}
use Rattle.reals.proofs.LimitLaws.{exact-sound}
use Rattle.reals.proofs.limit_of.Goals as goal
use Rattle.reals.proofs.limit_of.Goals.{In_ok-e}

-- the form is right, and its exponent is told
formed : (c : In_ok-e) → real_form c.args.s.now ≡ Some c.in_ok-e.e
formed c = rw (← c.real_form.ensures, c.ok_or.ensures.ok_part, c.in_ok-e.was)

-- the exponent is from 101 to 2099
bounds : (c : In_ok-e) → (101 ≤ c.in_ok-e.e) × (c.in_ok-e.e ≤ 2099)
bounds c = form-bounds c.args.s.now _ (formed c)

pub exact_of-requires : goal.exact_of-requires
exact_of-requires c = (c.requires, omega (arith, (bounds c).0))

pub in_bound-requires : goal.in_bound-requires
in_bound-requires c = rw c.exact_of.ensures (exact-sound _ _ _ c.requires (bounds (goal.at.in_bound-requires c).In_ok-e).1)
