-- `code_of` meets its contract.
use Rattle.numerals.proofs.CountLaws.{sign-within}
use Rattle.codes.proofs.code_of.Goals as goal

pub slice_bounds-hours_of-count : goal.slice_bounds-hours_of-count
slice_bounds-hours_of-count c = rw c.sign_length-n.ensures (sign-within c.args.s.now)

pub slice_bounds-hours_of-start : goal.slice_bounds-hours_of-start
slice_bounds-hours_of-start c = rw c.sign_length-n.ensures (sign-within c.args.s.now)
