-- `binary_row::row_of` meets its contract: each place is the definition's, of its part of the bytes.
use Rattle.binary_row.proofs.SizeLaws.{sizes, words-length}
use native.Mathlib.Omega.{arith}
use Rattle.binary_row.proofs.row_of.Goals as goal

pub row_time-time-requires : goal.row_time-time-requires
row_time-time-requires c = omega (arith, sizes c.args.layout)

pub slice_bounds-statuses_of-count : goal.slice_bounds-statuses_of-count
slice_bounds-statuses_of-count c = omega (arith, sizes c.args.layout)

pub slice_bounds-statuses_of-start : goal.slice_bounds-statuses_of-start
slice_bounds-statuses_of-start c = slice_bounds-statuses_of-count c

pub statuses_of-statuses-requires : goal.statuses_of-statuses-requires
statuses_of-statuses-requires c =
    (c.requires.0.statuses, rw (c.samples_end-mid.ensures, c.requires.1) (words-length c.args.layout c.args.bytes.now c.requires.1))
