-- `mantissa_length` meets its contract.
use native.Mathlib.Omega.{arith}
use lib.ListN.{drop, length-drop}
use Rattle.ground.proofs.Walk.{rest}
use Rattle.reals.proofs.FormLaws.{digits-within, fraction-within}
use Rattle.reals.proofs.mantissa_length.Goals as goal

pub slice_bounds-fraction_length-count : goal.slice_bounds-fraction_length-count
slice_bounds-fraction_length-count c = rw c.leading_digits-n.ensures (digits-within c.args.s.now)

pub slice_bounds-fraction_length-start : goal.slice_bounds-fraction_length-start
slice_bounds-fraction_length-start c = slice_bounds-fraction_length-count c

pub overflow_add-result : goal.overflow_add-result
overflow_add-result c =
    let digits = c.leading_digits-n in
    let s = c.args.s.now in
    let f = rw rest at c.fraction_length.ensures in
    omega (arith, f, simp length-drop at (fraction-within (drop digits.result s)), digits.ensures, digits-within s)
