-- `put_row_here` meets its contract: the line of the row that stands there.
use Rattle.list_text.proofs.put_row_here.Goals as goal

pub returns : goal.returns
returns c = rw (← c.row_here-row.ensures) c.put_row_line.ensures
