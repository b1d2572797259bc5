-- NOTHING TO BELIEVE HERE: what private functions and proofs need of the numbers of limits; no public call of the library cites it.
use Rattle.std.specs.Prelude.{◌<◌, ◌≤◌, ◌^◌}
use Rattle.reals.specs.declared.Exact.{Exact}

-- at most 13 digits and a scale of at most 2100, as the number of every limit has
pub record Sound (x : Exact) : Type 0 where
  pub few : x.digits < 10 ^ 13
  pub near : x.scale ≤ 2100
