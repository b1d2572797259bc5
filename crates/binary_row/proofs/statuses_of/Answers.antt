-- `binary_row::statuses_of` meets its contract: the statuses fill the first d places, and the rest is as it was, zero.
use mathlib.Core.Bool.{false}
use Rattle.binary_row.specs.Rows.{word_status}
use Rattle.ground.proofs.Filled.{padded-fill}
use Rattle.binary_row.proofs.statuses_of.Goals as goal

pub returns : goal.returns
returns c =
    let f = c.unpack_words in
    padded-fill c.args.d 256 false c.requires.0 (word_status c.args.b.now) f.new.d f.ensures
