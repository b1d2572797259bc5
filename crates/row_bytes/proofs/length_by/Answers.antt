-- `row_bytes::length_by` meets its contract, by the kind.
use Rattle.row_bytes.specs.Inner.{length_by}
use Rattle.row_bytes.proofs.KindLaws.{binary-arm}
use Rattle.ascii_plain.specs.Inner as plain
use Rattle.binary_row.proofs.SizeLaws.{size-le}
use Rattle.binary_row.specs.Rows.{row_size}
use native.Mathlib.Omega.{arith}
use Rattle.row_bytes.proofs.length_by.Goals as goal

pub returns-in-Ascii : goal.returns-in-Ascii
unfolding length_by
returns-in-Ascii c = (rw (c.length_by.ensures.value, c.in-Ascii.is), c.length_by.ensures.upper_bound)

pub returns-in-Binary : goal.returns-in-Binary
unfolding length_by
returns-in-Binary c = (
  rw (c.row_size.ensures, binary-arm c.args.layout.kind (plain.length_by c.args.layout c.args.n c.args.time c.args.samples.now) (row_size c.args.layout) c.in-Binary.is),
  rw c.row_size.ensures (omega (arith, size-le c.args.layout c.requires.0)),
)
