-- `limits_fault` meets its contract: what was read as a limit is one.
use Rattle.std.proofs.Common.{sym}
use mathlib.Core.Path.{◌∙◌}
use Rattle.reals.proofs.LimitLaws.{limit-sound}
use Rattle.line_fields.proofs.ValueLaws.{value-read}
use Rattle.channel_lines.proofs.limits_fault.Goals as goal

pub max_below-requires : goal.max_below-requires
max_below-requires c = record {
  sound = limit-sound _ _ (sym c.read_limit-2.ensures ∙ value-read 10 _ _ c.in_ok-max.ensures);
  sound_2 = limit-sound _ _ (sym c.read_limit.ensures ∙ value-read 9 _ _ c.in_ok-min.ensures);
}
