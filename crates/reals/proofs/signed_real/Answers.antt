-- `signed_real` meets its contract.
use Rattle.numerals.proofs.CountLaws.{sign-within}
use Rattle.reals.proofs.signed_real.Goals as goal

pub slice_bounds-real_sign-count : goal.slice_bounds-real_sign-count
slice_bounds-real_sign-count c = rw c.sign_length-n.ensures (sign-within c.args.s.now)

pub slice_bounds-real_sign-start : goal.slice_bounds-real_sign-start
slice_bounds-real_sign-start c = slice_bounds-real_sign-count c
