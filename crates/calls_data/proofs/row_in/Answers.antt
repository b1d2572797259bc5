-- `calls_data::row_in` meets its contract: the row that is shown below, as places.
use Rattle.calls_data.proofs.CallLaws.{shown-sized}
use Rattle.calls_data.specs.Inner.{row_in}
use mathlib.Core.Path.{sym, ◌∙◌}
use Rattle.calls_data.proofs.row_in.Goals as goal

pub show_places-requires : goal.show_places-requires
show_places-requires c =
    shown-sized c.args.layout c.args.«data».now c.args.n c.in-Ok.row (sym c.show_row.ensures ∙ c.in-Ok.is)

pub returns-in-Ok : goal.returns-in-Ok
unfolding row_in
returns-in-Ok c =
    let row = c.show_row.ensures in
    let shown = c.show_places.ensures in
    record { value = rw (← row, c.in-Ok.is) shown.value; shown_after = rw (← row, c.in-Ok.is) shown.shown_after }

pub returns-in-Err : goal.returns-in-Err
unfolding row_in
returns-in-Err c =
    let row = c.show_row.ensures in
    record { value = rw (c.no.ensures, ← row, c.in-Err.is); shown_after = rw (← row, c.in-Err.is) }
