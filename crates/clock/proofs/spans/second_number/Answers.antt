-- `second_number` meets its contract: the seconds of all days fit.
use mathlib.Core.Path.{◌≡◌}
use Prim.Native.Nat.{◌<◌, ◌^◌}
use lib.IntN.{ℤ, pos, ◌+ℤ◌, ◌*ℤ◌}
use lib.Signed.{mag}
use mir.Syntax.{w64}
use mir.Val.{to_z, of_z}
use mir.ValLaws.{to_z-of_z}
use Rattle.clock.specs.declared.Date.{Date}
use Rattle.clock.specs.Dates.{day_number}
use Rattle.clock.specs.Spans.{second_number}
use Rattle.words.proofs.MachineLaws.{read_back}
use Rattle.clock.proofs.SpanLaws.{days-fit, second_fits}
use Rattle.clock.proofs.spans.second_number.Goals as goal
use Rattle.clock.proofs.spans.second_number.Goals.{After-plus}

-- what the machine multiplies, and what it adds
days : (d : Date) (n : ℤ) → mag n < 2 ^ 63 → n ≡ day_number d → to_z w64 (of_z w64 n) *ℤ pos 86400 ≡ day_number d *ℤ pos 86400
days d n f e = rw (read_back n f, e)

seconds : (c : After-plus)
    → to_z w64 (of_z w64 (to_z w64 (of_z w64 c.day_number.result) *ℤ pos 86400)) +ℤ to_z w64 (of_z w64 c.plus.result)
    ≡ second_number c.args.date c.args.time
unfolding second_number
seconds c =
    rw (days c.args.date c.day_number.result c.day_number.type_inv c.day_number.ensures, to_z-of_z w64 _ (days-fit c.args.date c.requires.0), read_back c.plus.result c.plus.type_inv, c.plus.ensures, c.second_of_day.ensures)

pub overflow_mul-result : goal.overflow_mul-result
overflow_mul-result c = rw (days c.args.date c.day_number.result c.day_number.type_inv c.day_number.ensures) (days-fit c.args.date c.requires.0)

pub overflow_add-result : goal.overflow_add-result
overflow_add-result c =
    rw (seconds c) (second_fits c.args.date c.args.time c.requires.0 c.requires.1)

pub returns : goal.returns
returns c = rw (seconds c) (to_z-of_z w64 _ (rw (seconds c) at (overflow_add-result c)))
