-- `change_length::settle_binary` meets its contract: the rows fit, and their number times the row's size.
use mathlib.Core.Path.{◌≡◌, sym, ◌∙◌}
use Prim.Native.Nat.{◌*◌, ◌<◌, ◌^◌}
use native.Mathlib.Omega.{arith}
use Rattle.model.proofs.AnswerLaws.{yes-told}
use Rattle.binary_row.specs.Rows.{row_size}
use Rattle.binary_file.proofs.Laws.{whole}
use Rattle.recode.specs.Inner.{fit_from}
use Rattle.model.specs.Layouts.{in_kind}
use Rattle.change_length.specs.Inner.{settle_binary}
use Rattle.change_length.proofs.BinaryLaws.{few-binary}
use Rattle.change_length.proofs.settle_binary.Goals as goal
use Rattle.change_length.proofs.settle_binary.Goals.{After-row_size-size}

pub all_fit-requires : goal.all_fit-requires
all_fit-requires c = (c.requires.0, (whole c.args.layout c.args.«data».now c.requires.1).0, c.requires.2)

-- the new row's size, and how many bytes all take
size : (c : After-row_size-size)
    → c.row_size-size.result ≡ row_size (in_kind c.args.kind c.args.layout)
size c = c.row_size-size.ensures ∙ rw c.in_kind.ensures

few : (c : After-row_size-size) → c.args.layout.rows * c.row_size-size.result < 2 ^ 32
few c =
    rw (size c) (few-binary c.args.layout c.args.kind c.requires.0)

pub overflow_mul-result : goal.overflow_mul-result
overflow_mul-result c = omega (arith, few (goal.at.overflow_mul-result c).After-row_size-size)

pub returns : goal.returns
unfolding settle_binary
returns c =
    let told = yes-told (fit_from c.args.layout c.args.kind c.args.«data».now 0 c.args.layout.rows) (sym c.all_fit.ensures ∙ c.in_ok-all_fit.was) in
    (rw (size (goal.at.returns c).After-row_size-size, told), few (goal.at.returns c).After-row_size-size)
