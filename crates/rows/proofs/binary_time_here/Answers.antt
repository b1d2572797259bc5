-- `rows::binary_time_here` meets its contract.
use Rattle.binary_row.proofs.SizeLaws.{sizes}
use Rattle.binary_row.specs.Rows.{row_of}
use lib.Seq.{length-take-le}
use lib.ListN.{length, take}
use native.Mathlib.Omega.{arith}
use mathlib.Core.Path.{◌≡◌, sym}
use Rattle.rows.proofs.binary_time_here.Goals as goal
use Rattle.rows.proofs.binary_time_here.Goals.{After-row_size-size}

-- as many bytes as a row has
front : (c : After-row_size-size) → length (take c.row_size-size.result c.args.rest.now) ≡ c.row_size-size.result
front c = length-take-le _ _ (rw c.row_size-size.ensures c.requires.1)

pub slice_bounds-row_time-end : goal.slice_bounds-row_time-end
slice_bounds-row_time-end c = sym (front (goal.at.slice_bounds-row_time-end c).After-row_size-size)

pub row_time-requires : goal.row_time-requires
row_time-requires c = omega (arith, front (goal.at.row_time-requires c).After-row_size-size, c.row_size-size.ensures, sizes c.args.layout)

pub returns : goal.returns
unfolding row_of
returns c = rw (c.row_time.ensures, c.row_size-size.ensures)
