-- `binary_row::row_samples` meets its contract: the samples' part of the bytes.
use Rattle.binary_row.proofs.SizeLaws.{sizes}
use native.Mathlib.Omega.{arith}
use Rattle.binary_row.proofs.row_samples.Goals as goal

pub slice_bounds-samples_of-end : goal.slice_bounds-samples_of-end
slice_bounds-samples_of-end c = omega (arith, sizes c.args.layout)
