-- `max_below` meets its contract: by the minus of each.
use mathlib.Core.Path.{sym}
use Rattle.reals.proofs.SizeLaws.{minus_minus, minus_plus, plus-minus, plus-plus}
use Rattle.reals.proofs.max_below.Goals as goal

pub returns-then-min : goal.returns-then-min
returns-then-min c = rw c.size_le.ensures (sym (minus_minus c.args.max c.args.min c.if-max.true c.if-min.true))

pub returns-then-max : goal.returns-then-max
returns-then-max c = sym (minus_plus c.args.max c.args.min c.if-max.true c.if-min.false)

pub returns-then-min-2 : goal.returns-then-min-2
returns-then-min-2 c = sym (plus-minus c.args.max c.args.min c.if-max.false c.if-min-2.true)

pub returns : goal.returns
returns c = rw c.size_le-2.ensures (sym (plus-plus c.args.max c.args.min c.if-max.false c.if-min-2.false))
