-- `bytes_needed` meets its contract: a layout within the sizes, a kind that its edition has, and then what is decided.
use Rattle.change_length.proofs.LengthLaws.{needed-decided}
use Rattle.model.proofs.LayoutLaws.{sized}
use Rattle.model.specs.Layouts.{is_sized}
use mathlib.Core.Bool.{true}
use mathlib.Core.Path.{◌≡◌, sym, ◌∙◌}
use Rattle.change_length.proofs.bytes_needed.Goals as goal
use Rattle.change_length.proofs.bytes_needed.Goals.{Else-not-is_sized}

-- the layout is within the sizes
ok : (c : Else-not-is_sized) → is_sized c.args.layout ≡ true
ok c = sym c.is_sized.ensures ∙ c.if-not-is_sized.false

pub decide-requires : goal.decide-requires
decide-requires c = sized c.args.layout (ok (goal.at.decide-requires c).Else-not-is_sized)

pub returns : goal.returns
returns c =
    let has = sym c.has.ensures ∙ c.if-not-has.false in
    (rw (c.decide.ensures.0, needed-decided c.args.layout c.args.«data».now c.args.kind (ok (goal.at.returns c).Else-not-is_sized) has), c.decide.ensures.1)
