-- `take_quality` meets its contract: both codes are small.
use Rattle.std.proofs.Common.{sym, arith}
use Rattle.config_lines.proofs.Laws.{quality-le}
use Rattle.config_rules.proofs.take_quality.Goals as goal

pub overflow_cast-quality : goal.overflow_cast-quality
overflow_cast-quality c = omega (arith, (quality-le c.args.line.now _ (sym c.in_ok-quality.ensures)).0)

pub overflow_cast-leap : goal.overflow_cast-leap
overflow_cast-leap c = omega (arith, (quality-le c.args.line.now _ (sym c.in_ok-quality.ensures)).1)
