-- `binary_row::check_row` meets its contract: each return is the test that led to it.
use native.Mathlib.Omega.{arith}
use Rattle.binary_row.proofs.SizeLaws.{sizes, words-length}
use Rattle.binary_row.proofs.check_row.Goals as goal
use Rattle.binary_row.proofs.check_row.Goals.{After-padding_free, Else-word_of-n}

pub slice_bounds-word_of-end : goal.slice_bounds-word_of-end
slice_bounds-word_of-end c = omega (arith, sizes c.args.layout)

pub slice_bounds-padding_free-count : goal.slice_bounds-padding_free-count
slice_bounds-padding_free-count c = omega (arith, sizes c.args.layout)

pub slice_bounds-padding_free-start : goal.slice_bounds-padding_free-start
slice_bounds-padding_free-start c = slice_bounds-padding_free-count c

pub padding_free-requires : goal.padding_free-requires
padding_free-requires c =
    (c.requires.0.statuses, rw (c.samples_end-mid.ensures, c.requires.1) (words-length c.args.layout c.args.bytes.now c.requires.1))
