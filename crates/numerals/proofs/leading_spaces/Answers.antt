-- `leading_spaces` meets its contract.
use Rattle.numerals.proofs.WalkLaws.{all-spaces}
use Rattle.numerals.proofs.leading_spaces.Goals as goal

pub returns : goal.returns
returns c = all-spaces c.args.s.now _ c.skip_spaces.ensures
