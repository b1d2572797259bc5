-- `pre_trigger` meets its contract: the difference fits, and one less than it.
use mathlib.Core.Path.{◌≡◌}
use native.Mathlib.Omega.{arith}
use borrow.Author.Tests.{le-leb, lt-leb}
use lib.IntN.{ℤ, pos, ◌-ℤ◌}
use mir.Syntax.{w64}
use mir.Val.{SFits, to_z, of_z}
use mir.ValLaws.{to_z-of_z}
use Rattle.clock.specs.declared.Date.{Date}
use Rattle.clock.specs.declared.Time.{Time}
use Rattle.clock.specs.Spans.{second_number, span_of, pre_trigger}
use Rattle.clock.proofs.TimeLaws.{time-bounds}
use Rattle.words.proofs.MachineLaws.{read_back}
use Rattle.clock.proofs.SpanLaws.{seconds-fit, less-fit}
use Rattle.clock.proofs.spans.pre_trigger.Goals as goal
use Rattle.clock.proofs.spans.pre_trigger.Goals.{After-second_number-2, Start}

-- the difference in whole seconds, which fits, and one less than it
abbrev apart : Date → Time → Date → Time → ℤ
apart d t e u = second_number e u -ℤ second_number d t

apart_fits : (c : Start) → SFits w64 (apart c.args.first_date c.args.first_time c.args.trigger_date c.args.trigger_time)
apart_fits c =
    let p = c.requires in
    seconds-fit c.args.first_date c.args.first_time p.0 p.1 c.args.trigger_date c.args.trigger_time p.2 p.3

less-fits : (c : Start) → SFits w64 (apart c.args.first_date c.args.first_time c.args.trigger_date c.args.trigger_time -ℤ pos 1)
less-fits c =
    let p = c.requires in
    less-fit c.args.first_date c.args.first_time p.0 p.1 c.args.trigger_date c.args.trigger_time p.2 p.3

-- it is what the machine takes from what
told : (c : After-second_number-2)
    → to_z w64 (of_z w64 c.second_number.result) -ℤ to_z w64 (of_z w64 c.second_number-2.result) ≡ apart c.args.first_date c.args.first_time c.args.trigger_date c.args.trigger_time
told c =
    let t = c.second_number in
    let f = c.second_number-2 in
    rw (read_back t.result t.type_inv, read_back f.result f.type_inv, t.ensures, f.ensures)

pub overflow_sub-seconds : goal.overflow_sub-seconds
overflow_sub-seconds c = rw (told c) (apart_fits (goal.at.overflow_sub-seconds c).Start)

pub returns-then-first-trigger : goal.returns-then-first-trigger
unfolding pre_trigger span_of
returns-then-first-trigger c = rw (told (goal.at.returns-then-first-trigger c).After-second_number-2, to_z-of_z w64 _ (apart_fits (goal.at.returns-then-first-trigger c).Start), le-leb _ _ c.if-first-trigger.true)

pub overflow_sub-less : goal.overflow_sub-less
overflow_sub-less c =
    rw (told (goal.at.overflow_sub-less c).After-second_number-2, to_z-of_z w64 _ (apart_fits (goal.at.overflow_sub-less c).Start)) (less-fits (goal.at.overflow_sub-less c).Start)

pub overflow_add-nanoseconds : goal.overflow_add-nanoseconds
overflow_add-nanoseconds c =
    omega (arith, time-bounds c.args.trigger_time c.requires.3)

pub overflow_sub-nanoseconds : goal.overflow_sub-nanoseconds
overflow_sub-nanoseconds c =
    omega (arith, time-bounds c.args.first_time c.requires.1)

pub returns : goal.returns
unfolding pre_trigger span_of
returns c =
    rw (told (goal.at.returns c).After-second_number-2, to_z-of_z w64 _ (apart_fits (goal.at.returns c).Start), to_z-of_z w64 _ (less-fits (goal.at.returns c).Start), lt-leb _ _ c.if-first-trigger.false)
