-- `rewrite::write_config` meets its contract: what was accepted is no longer than a configuration may be.
use Rattle.rewrite.proofs.SmallLaws.{accepted-small}
use Rattle.rewrite.proofs.write_config.Goals as goal

pub rewrite_in-requires : goal.rewrite_in-requires
rewrite_in-requires c = accepted-small _ _ (rw c.read_config.ensures at c.in_ok-config.was)
