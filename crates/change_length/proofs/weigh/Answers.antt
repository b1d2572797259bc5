-- `change_length::weigh` meets its contract: the row's misfit and its length, from its timestamp and its samples alone.
use Rattle.change_length.proofs.TallyLaws.{tallied-length}
use Rattle.model.specs.Layouts.{in_kind}
use Rattle.change_length.specs.Inner.{weigh}
use Rattle.rows.specs.Inner.{row_here}
use Rattle.row_bytes.specs.Inner.{length_of}
use Rattle.row_bytes.proofs.RowLaws.{length-known}
use Rattle.data.specs.Files.{misfit_of}
use Rattle.model.proofs.FitLaws.{misfit-le}
use native.Mathlib.Omega.{arith}
use Prim.Native.Nat.{◌≤◌}
use mathlib.Core.Path.{◌≡◌}
use Rattle.change_length.proofs.weigh.Goals as goal
use Rattle.change_length.proofs.weigh.Goals.{After-first_misfit-bad, After-in_kind-new, After-length_by-size, After-samples_here-samples}

-- the first misfit, and the length
found : (c : After-first_misfit-bad)
    → c.first_misfit-bad.result ≡ misfit_of (in_kind c.args.kind c.args.layout) (row_here c.args.layout c.args.rest.now)
unfolding misfit_of
found c = rw (c.first_misfit-bad.ensures, c.in_kind-new.ensures, c.samples_here-samples.ensures)

small : (c : After-first_misfit-bad) → c.first_misfit-bad.result ≤ 96
small c =
    let fit = c.requires.0 in
    rw (c.first_misfit-bad.ensures, c.in_kind-new.ensures) (omega (arith, misfit-le (in_kind c.args.kind c.args.layout) c.samples_here-samples.result))

size : (c : After-length_by-size)
    → c.length_by-size.result ≡ length_of (in_kind c.args.kind c.args.layout) c.args.n (row_here c.args.layout c.args.rest.now)
size c =
    rw (c.length_by-size.ensures.0, c.in_kind-new.ensures, c.time_here-time.ensures, c.samples_here-samples.ensures)
    (length-known (in_kind c.args.kind c.args.layout) c.args.n (row_here c.args.layout c.args.rest.now))

pub overflow_cast-bad : goal.overflow_cast-bad
overflow_cast-bad c = omega (arith, small (goal.at.overflow_cast-bad c).After-first_misfit-bad)

pub tallied-requires : goal.tallied-requires
tallied-requires c = small (goal.at.tallied-requires c).After-first_misfit-bad

pub returns : goal.returns
unfolding weigh
returns c = (
  rw (c.tallied.ensures, found (goal.at.returns c).After-first_misfit-bad, size (goal.at.returns c).After-length_by-size),
  rw (c.tallied.ensures, tallied-length) (omega (arith, c.length_by-size.ensures.1)),
)
