-- `decimal_places` meets its contract.
use Rattle.reals.proofs.FormLaws.{digits-within}
use Rattle.reals.proofs.decimal_places.Goals as goal

pub slice_bounds-fraction_length-count : goal.slice_bounds-fraction_length-count
slice_bounds-fraction_length-count c = rw c.leading_digits-n.ensures (digits-within c.args.s.now)

pub slice_bounds-fraction_length-start : goal.slice_bounds-fraction_length-start
slice_bounds-fraction_length-start c = slice_bounds-fraction_length-count c
