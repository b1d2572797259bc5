-- `ascii_walk::time_end` meets its contract.
use native.Mathlib.Omega.{arith}
use Rattle.ascii_row.proofs.FieldLaws.{time-fine}
use Rattle.ascii_walk.proofs.time_end.Goals as goal

pub returns : goal.returns
returns c =
    let t = c.in_ok-time.ensures in
    record { comma = c.if-s-at-ne44.false; past = omega (arith, t.past); within = t.within; fine = time-fine _ _ t.reads c.if-time-gt-LATEST.false }
