-- `put_kind` meets its contract: a word for each kind.
use native.Mathlib.Omega.{arith}
use Rattle.model.specs.Kinds.{kind_name}
use Rattle.pieces.proofs.put_kind.Goals as goal

pub put_all-requires : goal.put_all-requires
unfolding kind_name
put_all-requires c = rw c.in-Ascii.is at c.requires

pub put_all-requires-in-Binary : goal.put_all-requires-in-Binary
unfolding kind_name
put_all-requires-in-Binary c = rw c.in-Binary.is at c.requires

pub put_all-requires-in-Binary32 : goal.put_all-requires-in-Binary32
unfolding kind_name
put_all-requires-in-Binary32 c = rw c.in-Binary32.is at c.requires

pub returns-in-Ascii : goal.returns-in-Ascii
unfolding kind_name
returns-in-Ascii c = rw c.in-Ascii.is record { put = c.put_all.ensures; upper_bound = omega (arith, c.put_all.ensures.end) }

pub returns-in-Binary : goal.returns-in-Binary
unfolding kind_name
returns-in-Binary c = rw c.in-Binary.is record { put = c.put_all-in-Binary.ensures; upper_bound = omega (arith, c.put_all-in-Binary.ensures.end) }

pub returns-in-Binary32 : goal.returns-in-Binary32
unfolding kind_name
returns-in-Binary32 c = rw c.in-Binary32.is record { put = c.put_all-in-Binary32.ensures; upper_bound = omega (arith, c.put_all-in-Binary32.ensures.end) }
