-- `ascii_row::read_samples` meets its contract. The loop's invariant: t is what follows the first i fields, and the slice begins with what they say; the rest is as it was.
use mir.ValLaws.{to_z-of_z}
use mir.Syntax.{w32}
use Rattle.ascii_row.proofs.RowLaws.{fill-turn}
use Rattle.ascii_row.specs.Fields.{sample_in}
use Rattle.text.proofs.FieldLaws.{field-within, after_none}
use lib.Seq.{length-take-le, drop-length}
use lib.ListN.{length}
use native.Mathlib.Omega.{arith}
use mathlib.Core.List.{append-nil}
use mathlib.Core.Path.{◌≡◌, refl, sym, ◌∙◌}
use Rattle.ascii_row.proofs.read_samples.Goals as goal

pub loop-sample-init : goal.loop-sample-init
loop-sample-init c = (omega arith, sym (after_none c.args.fields.now), refl)

pub slice_bounds-sample_in-end : goal.slice_bounds-sample_in-end
slice_bounds-sample_in-end c = sym (length-take-le _ _ (rw c.field_length-m.ensures (field-within c.loop-sample.t.now)))

pub loop-sample-preserved : goal.loop-sample-preserved
loop-sample-preserved c =
    let loop = c.loop-sample in
    let sample = c.sample_in in
    let inv = loop.invariant in
    let on = fill-turn (sample_in c.args.layout) c.args.fields.now loop.t.now c.args.d.now loop.d loop.sample-index c.field_length-m.result c.with_comma-taken.result _
    inv.0 (omega arith) loop.auto.d inv.1 inv.2 c.field_length-m.ensures c.with_comma-taken.ensures
    (to_z-of_z w32 sample.result (record { sfits = sample.type_inv }) ∙ sample.ensures) in
    (on.0, on.3, on.4)

pub returns : goal.returns
returns c =
    let e : c.loop-sample.sample-index ≡ length c.args.d.now = omega arith in
    c.loop-sample.invariant.2 ∙ rw (e, drop-length, append-nil)
