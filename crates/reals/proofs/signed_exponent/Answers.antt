-- `signed_exponent` meets its contract.
use Rattle.numerals.proofs.CountLaws.{sign-within}
use Rattle.reals.proofs.FormLaws.{short-below}
use Rattle.reals.proofs.signed_exponent.Goals as goal

pub slice_bounds-short_number-count : goal.slice_bounds-short_number-count
slice_bounds-short_number-count c = rw c.sign_length-n.ensures (sign-within c.args.s.now)

pub slice_bounds-short_number-start : goal.slice_bounds-short_number-start
slice_bounds-short_number-start c = slice_bounds-short_number-count c

pub raised_by-requires : goal.raised_by-requires
raised_by-requires c = rw c.short_number-size.ensures (short-below _)
