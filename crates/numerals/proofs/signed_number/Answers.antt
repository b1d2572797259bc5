-- `signed_number` meets its contract.
use native.Mathlib.Omega.{arith}
use lib.ListN.{drop, length-drop}
use Rattle.ground.proofs.Walk.{rest}
use Rattle.numerals.specs.Wholes.{signed_number}
use Rattle.numerals.proofs.CountLaws.{sign-within, number_fits}
use Rattle.numerals.proofs.signed_number.Goals as goal

pub slice_bounds-number_of-count : goal.slice_bounds-number_of-count
slice_bounds-number_of-count c = rw c.sign_length-n.ensures (sign-within c.args.s.now)

pub slice_bounds-number_of-start : goal.slice_bounds-number_of-start
slice_bounds-number_of-start c = rw c.sign_length-n.ensures (sign-within c.args.s.now)

pub with_sign-requires : goal.with_sign-requires
with_sign-requires c =
    rw (c.number_of-count.ensures, rest) (number_fits (drop c.sign_length-n.result c.args.s.now) (rw length-drop (omega arith)))

pub returns : goal.returns
unfolding signed_number
returns c = rw (c.with_sign.ensures, c.has_minus.ensures, c.number_of-count.ensures, rest, ← c.sign_length-n.ensures)
