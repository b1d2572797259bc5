-- NOTHING TO BELIEVE HERE: no contract cites this. The laws `next-number` (proofs/DateLaws.antt) and `pre-exact` (proofs/SpanLaws.antt) say of days and spans what it is for.
use Rattle.std.specs.Prelude.{ℕ, ◌+◌, ltb, ℤ, pos, ◌+ℤ◌, ◌*ℤ◌, if◌then◌else◌}
use Rattle.clock.specs.declared.Date.{Date}
use Rattle.clock.specs.Dates.{month_days}

-- the day after
unfoldable pub next_day : Date → Date
next_day x =
    if ltb x.day (month_days x.year x.month) then record { day = x.day + 1; month = x.month; year = x.year }
    else if ltb x.month 12 then record { day = 1; month = x.month + 1; year = x.year }
    else record { day = 1; month = 1; year = x.year + 1 }

-- seconds and nanoseconds together, in nanoseconds
unfoldable pub in_nanoseconds : ℤ → ℕ → ℤ
in_nanoseconds z n = z *ℤ pos 1_000_000_000 +ℤ pos n
