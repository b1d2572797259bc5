-- `fraction_length` meets its contract.
use native.Mathlib.Omega.{arith}
use lib.ListN.{drop, length-drop}
use Rattle.ground.proofs.Walk.{rest}
use Rattle.reals.proofs.FormLaws.{digits-within}
use Rattle.reals.proofs.fraction_length.Goals as goal

pub overflow_add-result : goal.overflow_add-result
overflow_add-result c =
    let d = rw rest at c.leading_digits-after.ensures in
    omega (arith, d, simp length-drop at (digits-within (drop 1 c.args.s.now)))
