-- `ascii_file::check_in_order` meets its contract: the scan, then the check of the line that was found.
use Prim.Native.Nat.{◌+◌}
use Rattle.ascii_file.specs.Files.{take_row}
use Rattle.ascii_row.specs.Rows.{check_line}
use Rattle.model.proofs.AnswerLaws.{yes-told}
use Rattle.text.proofs.LineLaws.{Lies, line-found}
use lib.Seq.{length-take-le}
use lib.ListN.{take}
use native.Mathlib.Omega.{arith}
use mathlib.Core.Path.{◌≡◌, sym, ◌∙◌}
use Rattle.ascii_file.proofs.check_in_order.Goals as goal
use Rattle.ascii_file.proofs.check_in_order.Goals.{In-Ok}

-- what the scan says of the line that it found
found : (c : In-Ok)
    → (c.in-Ok.line.taken ≡ c.in-Ok.line.len + 2) × Lies 1880 c.args.rest.now c.in-Ok.line.len c.in-Ok.line.taken
found c =
    line-found 1880 c.in-Ok.line.len c.in-Ok.line.taken c.args.rest.now (sym c.scan_line.ensures ∙ c.in-Ok.is)

pub slice_bounds-check_line-end : goal.slice_bounds-check_line-end
slice_bounds-check_line-end c = sym (length-take-le _ _ (omega (arith, (found (goal.at.slice_bounds-check_line-end c).In-Ok).0, (found (goal.at.slice_bounds-check_line-end c).In-Ok).1.within)))

pub returns-in_ok-check_line-in-Ok : goal.returns-in_ok-check_line-in-Ok
unfolding take_row
returns-in_ok-check_line-in-Ok c =
    let told = yes-told (check_line c.args.layout c.args.n (take c.in-Ok.line.len c.args.rest.now)) (sym c.check_line.ensures ∙ c.in_ok-check_line-in-Ok.was) in
    rw (← c.scan_line.ensures, c.in-Ok.is, told, (found (goal.at.returns-in_ok-check_line-in-Ok c).In-Ok).0)
