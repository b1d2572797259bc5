-- `recode::row_misfit` meets its contract: a row's samples are looked at in its bytes.
use native.Mathlib.Omega.{arith}
use mathlib.Core.Path.{sym, ◌∙◌}
use Rattle.binary_row.proofs.SizeLaws.{sizes}
use Rattle.recode.proofs.RowLaws.{row-narrow}
use Rattle.recode.proofs.row_misfit.Goals as goal

pub slice_bounds-first_stray-end : goal.slice_bounds-first_stray-end
slice_bounds-first_stray-end c =
    omega (arith, c.samples_end-mid.ensures, c.requires.1, sizes c.args.layout)

pub returns : goal.returns
returns c =
    c.first_stray.ensures ∙ rw c.samples_end-mid.ensures (sym (row-narrow c.args.layout c.args.new c.args.b.now c.requires.2))
