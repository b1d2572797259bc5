-- `words::minus` meets its contract: a size taken from 0 fits, and is read back.
use lib.IntN.{pos, neg_ℤ}
use mir.Syntax.{w64}
use mir.ValLaws.{to_z-of_z}
use Rattle.words.proofs.MachineLaws.{negated, negated_fits}
use Rattle.words.proofs.minus.Goals as goal

pub overflow_sub-result : goal.overflow_sub-result
overflow_sub-result c = rw (negated w64 c.args.v c.requires) (negated_fits w64 c.args.v c.requires)

pub returns : goal.returns
returns c = rw (negated w64 c.args.v c.requires) (to_z-of_z w64 (neg_ℤ (pos c.args.v)) (negated_fits w64 c.args.v c.requires))
