-- `kind_length` meets its contract: a length for each kind.
use Rattle.model.specs.Kinds.{kind_name}
use Rattle.pieces.proofs.kind_length.Goals as goal

pub returns-in-Ascii : goal.returns-in-Ascii
unfolding kind_name
returns-in-Ascii c = rw c.in-Ascii.is

pub returns-in-Binary : goal.returns-in-Binary
unfolding kind_name
returns-in-Binary c = rw c.in-Binary.is

pub returns-in-Binary32 : goal.returns-in-Binary32
unfolding kind_name
returns-in-Binary32 c = rw c.in-Binary32.is
