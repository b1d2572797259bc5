-- `check` meets its contract: a layout within the sizes, and then what the file says by its kind.
use Rattle.model.proofs.LayoutLaws.{sized}
use Rattle.model.specs.Layouts.{is_sized}
use mathlib.Core.Bool.{true}
use mathlib.Core.Path.{◌≡◌, sym, ◌∙◌}
use Rattle.data.proofs.check.Goals as goal
use Rattle.data.proofs.check.Goals.{Else-not-is_sized}

-- the layout is within the sizes
ok : (c : Else-not-is_sized) → is_sized c.args.layout ≡ true
ok c = sym c.is_sized.ensures ∙ c.if-not-is_sized.false

pub check_text-requires : goal.check_text-requires
check_text-requires c = sized c.args.layout (ok (goal.at.check_text-requires c).Else-not-is_sized)

pub check_binary-requires : goal.check_binary-requires
check_binary-requires c = sized c.args.layout (ok (goal.at.check_binary-requires c).Else-not-is_sized)
