-- `words::widened` meets its contract: a number of 32 bits is kept by 64, and read back from them.
use mathlib.Core.Path.{refl}
use mir.Syntax.{w32}
use mir.ValLaws.{to_z-of_z}
use Rattle.words.proofs.MachineLaws.{wide_fits, widened-back}
use Rattle.words.proofs.widened.Goals as goal

pub overflow_cast-result : goal.overflow_cast-result
overflow_cast-result c = rw (to_z-of_z w32 c.args.z c.ranges.z) (wide_fits c.args.z c.ranges.z)

pub returns : goal.returns
returns c = widened-back c.args.z _ c.ranges.z refl
