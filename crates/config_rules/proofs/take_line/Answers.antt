-- `take_line` meets its contract: the trigger's line has what it needs.
use Rattle.config_rules.proofs.take_line.Goals as goal

pub take_trigger-requires : goal.take_trigger-requires
take_trigger-requires c = rw (← c.in-Trigger.is) c.requires
