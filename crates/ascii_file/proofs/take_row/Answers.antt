-- `ascii_file::take_row` meets its contract: where one walk reads the row through, it is fine.
use Rattle.ascii_file.proofs.Laws.{row-takes}
use Rattle.ascii_file.proofs.take_row.Goals as goal

pub returns-in-Some : goal.returns-in-Some
returns-in-Some c = rw (row-takes _ _ c.args.rest.now _ c.in-Some.ensures)
