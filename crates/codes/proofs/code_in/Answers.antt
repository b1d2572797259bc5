-- `code_in` meets its contract.
use Rattle.numerals.proofs.CountLaws.{spaces-within}
use Rattle.codes.proofs.code_in.Goals as goal

pub slice_bounds-code_of-count : goal.slice_bounds-code_of-count
slice_bounds-code_of-count c = rw c.leading_spaces-n.ensures (spaces-within c.args.field.now)

pub slice_bounds-code_of-start : goal.slice_bounds-code_of-start
slice_bounds-code_of-start c = rw c.leading_spaces-n.ensures (spaces-within c.args.field.now)
