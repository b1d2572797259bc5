-- `take_counts` meets its contract: A and D are small.
use Rattle.std.proofs.Common.{sym, arith}
use Rattle.channel_lines.proofs.Laws.{channels-le}
use Rattle.config_rules.proofs.take_counts.Goals as goal

pub overflow_cast-a : goal.overflow_cast-a
overflow_cast-a c = omega (arith, (channels-le c.args.line.now _ (sym c.in_ok-analogs.ensures)).0)

pub overflow_cast-d : goal.overflow_cast-d
overflow_cast-d c = omega (arith, (channels-le c.args.line.now _ (sym c.in_ok-analogs.ensures)).1)
