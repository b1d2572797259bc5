-- `numerals::signed` meets its contract.
use mir.Syntax.{w64}
use mir.ValLaws.{to_z-of_z}
use Rattle.numerals.proofs.signed.Goals as goal

pub returns-then-minus : goal.returns-then-minus
returns-then-minus c = rw (to_z-of_z w64 c.minus.result (record { sfits = c.minus.type_inv }), c.minus.ensures, c.if-minus.true)

pub returns : goal.returns
returns c = rw (to_z-of_z w64 c.plus.result (record { sfits = c.plus.type_inv }), c.plus.ensures, c.if-minus.false)
