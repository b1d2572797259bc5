-- `ascii_plain::missing_length` meets its contract.
use mathlib.Core.Path.{sym, ◌∙◌}
use Rattle.ascii_plain.proofs.LengthLaws.{missing-none, missing-mark}
use Rattle.ascii_plain.proofs.missing_length.Goals as goal

pub returns-then-is_marked : goal.returns-then-is_marked
returns-then-is_marked c = c.plain_length.ensures ∙ rw (missing-mark c.args.layout (sym c.is_marked.ensures ∙ c.if-is_marked.true))

pub returns : goal.returns
returns c = rw (missing-none c.args.layout (sym c.is_marked.ensures ∙ c.if-is_marked.false))
