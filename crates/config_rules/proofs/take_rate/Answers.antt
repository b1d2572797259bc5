-- `take_rate` meets its contract: a last row is a row.
use Rattle.std.proofs.Common.{sym, arith}
use Rattle.config_lines.proofs.Laws.{rate-le}
use Rattle.config_rules.proofs.take_rate.Goals as goal

pub overflow_cast-last : goal.overflow_cast-last
overflow_cast-last c = omega (arith, rate-le _ _ c.args.line.now _ (sym c.in_ok-last.ensures))
