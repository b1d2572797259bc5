-- `signed_limit` meets its contract.
use Rattle.numerals.proofs.CountLaws.{sign-within}
use Rattle.reals.proofs.signed_limit.Goals as goal

pub slice_bounds-limit_of-count : goal.slice_bounds-limit_of-count
slice_bounds-limit_of-count c = rw c.sign_length-n.ensures (sign-within c.args.s.now)

pub slice_bounds-limit_of-start : goal.slice_bounds-limit_of-start
slice_bounds-limit_of-start c = slice_bounds-limit_of-count c
