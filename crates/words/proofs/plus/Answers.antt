-- `words::plus` meets its contract: a size below half of the bits is read as itself.
use mir.Syntax.{w64}
use mir.ValLaws.{to_z_pos}
use Rattle.words.proofs.plus.Goals as goal

pub returns : goal.returns
returns c = to_z_pos w64 c.args.v c.requires
