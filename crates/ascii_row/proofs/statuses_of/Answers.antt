-- `ascii_row::statuses_of` meets its contract: what the fields say fills the first d places, and the rest is as it was, zero.
use Rattle.ascii_row.specs.Rows.{field_status}
use Rattle.ground.proofs.Filled.{padded-fill}
use mathlib.Core.Bool.{false}
use Rattle.ascii_row.proofs.statuses_of.Goals as goal

pub returns : goal.returns
returns c =
    let read = c.read_statuses in
    padded-fill c.args.d 256 false c.requires (field_status c.args.fields.now) read.new.d read.ensures
