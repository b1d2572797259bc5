-- `show_row` meets its contract: a layout within the sizes, a row that there is, and then the row by the kind.
use Rattle.data.proofs.Laws.{row_told}
use Rattle.data.specs.Files.{has_row}
use Rattle.model.proofs.LayoutLaws.{sized}
use Rattle.model.specs.Layouts.{is_sized, Sized}
use native.Mathlib.Omega.{arith}
use Prim.Native.Nat.{◌≤◌, ◌<◌, ◌-◌}
use mathlib.Core.Bool.{true}
use mathlib.Core.Path.{◌≡◌, sym, ◌∙◌}
use Rattle.data.proofs.show_row.Goals as goal
use Rattle.data.proofs.show_row.Goals.{Else-not-has_row, Else-not-is_sized}

-- the layout is within the sizes
ok : (c : Else-not-is_sized) → is_sized c.args.layout ≡ true
ok c = sym c.is_sized.ensures ∙ c.if-not-is_sized.false

-- the row is one of the file's
there : (c : Else-not-has_row) → has_row c.args.layout c.args.n ≡ true
there c = sym c.has_row.ensures ∙ c.if-not-has_row.false

asked : (c : Else-not-has_row) → is_sized c.args.layout ≡ true
    → (1 ≤ c.args.n) × ((Sized c.args.layout) × (c.args.n - 1 < c.args.layout.rows))
asked c sizes =
    let t = row_told c.args.layout c.args.n (there c) in
    (t.0, (sized c.args.layout sizes, omega arith))

pub overflow_sub-n : goal.overflow_sub-n
overflow_sub-n c = (asked (goal.at.overflow_sub-n c).Else-not-has_row (ok (goal.at.overflow_sub-n c).Else-not-is_sized)).0

pub show_text-requires : goal.show_text-requires
show_text-requires c = (asked (goal.at.show_text-requires c).Else-not-has_row (ok (goal.at.show_text-requires c).Else-not-is_sized)).1

pub overflow_sub-n-in-Binary : goal.overflow_sub-n-in-Binary
overflow_sub-n-in-Binary c = (asked (goal.at.overflow_sub-n-in-Binary c).Else-not-has_row (ok (goal.at.overflow_sub-n-in-Binary c).Else-not-is_sized)).0

pub show_binary-requires : goal.show_binary-requires
show_binary-requires c = (asked (goal.at.show_binary-requires c).Else-not-has_row (ok (goal.at.show_binary-requires c).Else-not-is_sized)).1
