-- `take_rate_count` meets its contract: there are few rates.
use Rattle.std.proofs.Common.{sym, arith}
use Rattle.config_lines.proofs.Laws.{rates-le}
use Rattle.config_rules.proofs.take_rate_count.Goals as goal

pub overflow_cast-e : goal.overflow_cast-e
overflow_cast-e c = omega (arith, rates-le c.args.line.now _ (sym c.in_ok-rates.ensures))
