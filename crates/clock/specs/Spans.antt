-- Seconds counted over the days, and the pre-trigger time, known or not.
use Rattle.std.specs.Prelude.{◌≡◌, true, ℕ, ◌+◌, ◌-◌, leb, ℤ, pos, ◌+ℤ◌, ◌-ℤ◌, ◌*ℤ◌, if◌then◌else◌}
use Rattle.clock.specs.declared.Date.{Date}
use Rattle.clock.specs.declared.Time.{Time}
use Rattle.clock.specs.declared.Span.{Span}
use Rattle.std.specs.Prelude.{None, Option, Some}
use Rattle.clock.specs.declared.Moment.{Moment}
use Rattle.clock.specs.Dates.{valid_date, day_number}
use Rattle.clock.specs.Times.{valid_time, second_of_day}

-- the number of a second: 86,400 a day
unfoldable pub second_number : Date → Time → ℤ
second_number x t = day_number x *ℤ pos 86400 +ℤ pos (second_of_day t)

-- seconds and then the nanoseconds from n to m, a second borrowed where m is less
unfoldable pub span_of : ℤ → ℕ → ℕ → Span
span_of z n m =
    if leb n m then record { seconds = z; nanoseconds = m - n }
    else record { seconds = z -ℤ pos 1; nanoseconds = m + 1_000_000_000 - n }

-- trigger minus first sample, the seconds rounded down
unfoldable pub pre_trigger : Date → Time → Date → Time → Span
pre_trigger first_date first_time trigger_date trigger_time =
    span_of (second_number trigger_date trigger_time -ℤ second_number first_date first_time) first_time.nanosecond trigger_time.nanosecond

-- a stamp of the calendar: a date and a time of it, or none
abbrev pub Calendar : Option Moment → Type 0
Calendar (Some m) = (valid_date m.date ≡ true) × (valid_time m.time ≡ true)
Calendar None = Unit {0}

-- trigger minus first sample; unknown where either has no date
unfoldable pub pretrigger_of : Option Moment → Option Moment → Option Span
pretrigger_of (Some a) (Some b) = Some (pre_trigger a.date a.time b.date b.time)
pretrigger_of (Some a) None = None
pretrigger_of None b = None
