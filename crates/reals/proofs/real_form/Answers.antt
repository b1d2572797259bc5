-- `real_form` meets its contract.
use Rattle.reals.proofs.FormLaws.{mantissa-within}
use Rattle.reals.proofs.real_form.Goals as goal

pub slice_bounds-exponent_of-count : goal.slice_bounds-exponent_of-count
slice_bounds-exponent_of-count c = rw c.mantissa_length-m.ensures (mantissa-within c.args.s.now)

pub slice_bounds-exponent_of-start : goal.slice_bounds-exponent_of-start
slice_bounds-exponent_of-start c = slice_bounds-exponent_of-count c
