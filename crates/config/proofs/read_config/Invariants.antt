-- `read_config` meets its contract. The loop's invariant: what the paper reads in the file is what it reads from here on, by the rule of the next line, with what is told so far.
use Rattle.ground.specs.Said.{answer_of}
use mathlib.Core.Path.{◌≡◌}
use Prim.Native.Nat.{◌+◌, ◌-◌, ◌≤◌}
use lib.ListN.{length, drop}
use Rattle.config.specs.Config.{read_config}
use Rattle.config.specs.Reading.{said_of}
use Rattle.config_rules.specs.Inner.{Ready}
use Rattle.config.proofs.PaperLaws as paper
use Rattle.config.proofs.read_config.Given as goal

abbrev pub invariant-loop-rule : goal.invariant-loop-rule
invariant-loop-rule l = (l.at ≤ length l.cfg) × (l.n ≤ l.at + 1) × Ready l.rule l.config × (read_config l.cfg ≡ answer_of (said_of (paper.rest l.rule l.config (l.n, drop l.at l.cfg))))

abbrev pub decreases-loop-rule : goal.decreases-loop-rule
decreases-loop-rule l = length l.cfg - l.at
