-- `channels_line` meets its contract: A and D are small, so their sum fits.
use Rattle.std.proofs.Common.{◌≤◌, sym, arith}
use mathlib.Core.Path.{◌∙◌}
use Rattle.line_fields.proofs.ValueLaws.{lettered-le, value-read}
use Rattle.channel_lines.proofs.channels_line.Goals as goal

pub overflow_add-a : goal.overflow_add-a
overflow_add-a c =
    let small : c.in_ok-a.a ≤ 96 = lettered-le 65 96 _ _ (sym c.read_lettered.ensures ∙ value-read 2 _ _ c.in_ok-a.ensures) in
    let few : c.in_ok-d.d ≤ 256 = lettered-le 68 256 _ _ (sym c.read_lettered-2.ensures ∙ value-read 3 _ _ c.in_ok-d.ensures) in
    omega arith
