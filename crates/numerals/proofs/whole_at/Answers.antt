-- `numerals::whole_at` meets its contract.
use mathlib.Core.List.{[], ◌∷◌}
use mir.Syntax.{w64}
use mir.ValLaws.{to_z-of_z}
use native.Mathlib.Omega.{arith}
use lib.ListN.{get_or}
use Rattle.numerals.proofs.CountLaws.{sign-within}
use Rattle.numerals.proofs.WalkLaws.{whole-there, run-below}
use Rattle.numerals.proofs.whole_at.Goals as goal

pub overflow_add-j : goal.overflow_add-j
overflow_add-j c = omega (arith, c.sign_taken.ensures, sign-within (get_or c.args.s.now c.skip_spaces-i.result 0 ∷ []))

pub run_digits-run-requires : goal.run_digits-run-requires
run_digits-run-requires c =
    let w = sign-within (get_or c.args.s.now c.skip_spaces-i.result 0 ∷ []) in
    (omega (arith, c.sign_taken.ensures, w), omega arith, omega arith)

pub signed-requires : goal.signed-requires
signed-requires c =
    run-below c.args.s.now _ _ _ _ c.run_digits-run.ensures (omega arith) (omega arith)

pub returns : goal.returns
returns c =
    let number = c.signed in
    rw (to_z-of_z w64 number.result (record { sfits = number.type_inv }), number.ensures)
    (whole-there c.args.s.now _ _ c.skip_spaces-i.result _ _ c.skip_spaces-i.ensures
    (rw c.sign_taken.ensures at c.run_digits-run.ensures) (omega (arith, c.sign_taken.ensures, c.if-run-j.false))
    c.if-lim-run.false c.limit-lim.ensures.1 (omega arith))
