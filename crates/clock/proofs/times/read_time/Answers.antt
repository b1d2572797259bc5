-- `read_time` meets its contract.
use mathlib.Core.Bool.{true}
use mathlib.Core.Path.{sym, ◌∙◌, ◌≡◌}
use Rattle.clock.specs.Times.{time_form}
use Rattle.clock.proofs.TimeLaws.{form-length}
use Rattle.clock.proofs.times.read_time.Goals as goal
use Rattle.clock.proofs.times.read_time.Goals.{Else-not-time_form}

-- the form is right
form : (c : Else-not-time_form) → time_form c.args.field.now ≡ true
form c = sym c.time_form.ensures ∙ c.if-not-time_form.false

pub time_of-time-requires : goal.time_of-time-requires
time_of-time-requires c = form-length c.args.field.now (form c)
