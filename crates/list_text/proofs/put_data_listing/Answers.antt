-- `put_data_listing` meets its contract: the size, then the check, then the first line and the rows.
use mathlib.Core.Path.{◌≡◌, sym, ◌∙◌}
use native.Mathlib.Omega.{arith}
use borrow.Author.Tests.{le-leb, lt-leb}
use lib.ListN.{length}
use Rattle.std.proofs.Common.{Err, Ok}
use Rattle.data.specs.Files.{check_file}
use Rattle.list_text.specs.Listing.{data_listing}
use Rattle.pieces.proofs.Laws.{put_then}
use Rattle.data.proofs.Laws.{accepted-fine}
use Rattle.list_text.proofs.put_data_listing.Goals as goal
use Rattle.list_text.proofs.put_data_listing.Goals.{In-Ok}

pub returns-then-dat-gt-LARGEST : goal.returns-then-dat-gt-LARGEST
unfolding data_listing
returns-then-dat-gt-LARGEST c =
    rw (lt-leb (length c.args.dat.now) 65536 c.if-dat-gt-LARGEST.true) c.put_all.ensures

-- the file is accepted
accepted : (c : In-Ok) → check_file c.args.layout c.args.dat.now ≡ Ok tt
accepted c = sym c.check.ensures ∙ c.in-Ok.is

pub put_rows-requires : goal.put_rows-requires
put_rows-requires c =
    (c.requires.0, (accepted-fine c.args.layout c.args.dat.now (accepted (goal.at.put_rows-requires c).In-Ok)).1, omega (arith, c.put_head_line-n.ensures.upper_bound))

pub returns-in-Ok : goal.returns-in-Ok
unfolding data_listing
returns-in-Ok c =
    let small = le-leb (length c.args.dat.now) 65536 c.if-dat-gt-LARGEST.false in
    rw (small, accepted (goal.at.returns-in-Ok c).In-Ok) (put_then c.put_head_line-n.ensures.put c.put_rows.ensures)

pub returns-in-Err : goal.returns-in-Err
unfolding data_listing
returns-in-Err c =
    let small = le-leb (length c.args.dat.now) 65536 c.if-dat-gt-LARGEST.false in
    let e : check_file c.args.layout c.args.dat.now ≡ Err c.in-Err.refusal = sym c.check.ensures ∙ c.in-Err.is in
    rw (small, e) c.put_refusal_line.ensures
