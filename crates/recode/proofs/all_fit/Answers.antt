-- `all_fit` meets its contract: a kind that is as wide takes any sample.
use native.Mathlib.Omega.{arith}
use Rattle.words.proofs.WordLaws.{all-bytes}
use Rattle.recode.proofs.RowLaws.{fits_all}
use Rattle.recode.proofs.all_fit.Goals as goal

pub returns : goal.returns
returns c =
    let file = c.args.«data».now in
    let known = all-bytes file c.shared_slice_known-1.given in
    rw (fits_all c.args.layout c.args.new file (omega (arith, c.width.ensures, c.width-2.ensures, c.if-width.false)) c.requires.2 known)
