-- `ascii_file::first_line` meets its contract.
use Rattle.text.proofs.LineLaws.{line-found}
use lib.Seq.{length-take-le}
use native.Mathlib.Omega.{arith}
use mathlib.Core.Path.{sym, ◌∙◌}
use Rattle.ascii_file.proofs.first_line.Goals as goal

pub slice_bounds-result-end : goal.slice_bounds-result-end
slice_bounds-result-end c =
    let f = line-found 1880 c.in-Ok.line.len c.in-Ok.line.taken c.args.rest.now (sym c.scan_line.ensures ∙ c.in-Ok.is) in
    sym (length-take-le _ _ (omega (arith, f.0, f.1.within)))
