-- `read_real` meets its contract.
use Rattle.numerals.proofs.CountLaws.{spaces-within}
use Rattle.reals.proofs.read_real.Goals as goal

pub slice_bounds-signed_real-count : goal.slice_bounds-signed_real-count
slice_bounds-signed_real-count c = rw c.leading_spaces-n.ensures (spaces-within c.args.field.now)

pub slice_bounds-signed_real-start : goal.slice_bounds-signed_real-start
slice_bounds-signed_real-start c = slice_bounds-signed_real-count c
