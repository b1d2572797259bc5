-- `ascii_row::read_statuses` meets its contract. The loop's invariant: t is what follows the first i fields, and the slice begins with what they say; the rest is as it was.
use Rattle.ascii_row.proofs.RowLaws.{fill-turn}
use Rattle.ascii_row.specs.Fields.{status_in}
use Rattle.text.proofs.FieldLaws.{field-within, after_none}
use lib.Seq.{length-take-le, drop-length}
use lib.ListN.{length}
use native.Mathlib.Omega.{arith}
use mathlib.Core.List.{append-nil}
use mathlib.Core.Path.{◌≡◌, refl, sym, ◌∙◌}
use Rattle.ascii_row.proofs.read_statuses.Goals as goal

pub loop-status-init : goal.loop-status-init
loop-status-init c = (omega arith, sym (after_none c.args.fields.now), refl)

pub slice_bounds-status_in-end : goal.slice_bounds-status_in-end
slice_bounds-status_in-end c = sym (length-take-le _ _ (rw c.field_length-m.ensures (field-within c.loop-status.t.now)))

pub loop-status-preserved : goal.loop-status-preserved
loop-status-preserved c =
    let loop = c.loop-status in
    let inv = loop.invariant in
    let on = fill-turn status_in c.args.fields.now loop.t.now c.args.d.now loop.d loop.status-index c.field_length-m.result c.with_comma-taken.result _
    inv.0 (omega arith) loop.auto.d inv.1 inv.2 c.field_length-m.ensures c.with_comma-taken.ensures
    c.status_in.ensures in
    (on.0, on.3, on.4)

pub returns : goal.returns
returns c =
    let e : c.loop-status.status-index ≡ length c.args.d.now = omega arith in
    c.loop-status.invariant.2 ∙ rw (e, drop-length, append-nil)
