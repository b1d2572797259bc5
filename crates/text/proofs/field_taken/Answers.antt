-- `text::field_taken` meets its contract.
-- Assumes nothing.
use Rattle.text.specs.Inner.{field_taken}
use Rattle.text.proofs.field_taken.Goals as goal

pub returns : goal.returns
unfolding field_taken
returns c = rw (c.with_comma.ensures, c.field_length-n.ensures)
