-- `take_trigger` meets its contract: both stamps are of the calendar, or no date.
use Rattle.std.proofs.Common.{sym}
use Rattle.config_lines.proofs.Laws.{date-valid}
use Rattle.config_rules.specs.Inner.{Ready}
use Rattle.config_rules.proofs.take_trigger.Goals as goal

pub pretrigger_of-pretrigger-requires : goal.pretrigger_of-pretrigger-requires
unfolding Ready
pretrigger_of-pretrigger-requires c = (c.requires, date-valid c.args.line.now _ (sym c.in_ok-trigger.ensures))
