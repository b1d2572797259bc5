-- `recode_samples::short_of` meets its contract.
use native.Mathlib.Omega.{arith}
use Rattle.recode_samples.proofs.SampleLaws.{short-is}
use Rattle.recode_samples.proofs.short_of.Goals as goal

pub returns : goal.returns
returns c = short-is c.args.n c.requires (omega (arith, c.ranges.n))
