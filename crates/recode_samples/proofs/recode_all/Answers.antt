-- `recode_samples::recode_all` meets its contract, by the widths.
use native.Mathlib.Omega.{arith}
use mathlib.Core.Path.{sym, ◌∙◌}
use Prim.Native.Nat.{◌<◌}
use Rattle.model.specs.Kinds.{width_of}
use Rattle.recode_samples.proofs.WidthLaws.{widened-by, narrowed-by}
use Rattle.recode_samples.proofs.recode_all.Goals as goal
use Rattle.recode_samples.proofs.recode_all.Goals.{Else-width, Then-width}

-- which width is less
wide : (c : Then-width) → width_of c.args.kind < width_of c.args.new
wide c = omega (arith, c.width.ensures, c.width-2.ensures, c.if-width.true)

slim : (c : Else-width) → width_of c.args.new < width_of c.args.kind
slim c = omega (arith, c.width.ensures, c.width-2.ensures, c.if-width.false, c.requires.2)

pub returns-then-width : goal.returns-then-width
returns-then-width c =
    c.widen_all.ensures ∙ sym (widened-by c.args.kind c.args.new c.args.a c.args.b.now (wide (goal.at.returns-then-width c).Then-width))

pub returns-else-width : goal.returns-else-width
returns-else-width c =
    c.narrow_all.ensures ∙ sym (narrowed-by c.args.kind c.args.new c.args.a c.args.b.now (slim (goal.at.returns-else-width c).Else-width))
