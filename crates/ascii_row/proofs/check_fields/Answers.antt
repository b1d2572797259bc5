-- `ascii_row::check_fields` meets its contract. The loop's invariant: the check of all fields is that of those from field k on, with which t begins.
use Rattle.ascii_row.proofs.RowLaws.{fields-turn}
use Rattle.ascii_row.specs.Rows.{field_fine, check_fields}
use Rattle.text.proofs.FieldLaws.{field-within, walk-on, walk-shorter}
use Rattle.text.specs.Fields.{first_field}
use lib.Seq.{length-take-le}
use native.Mathlib.Omega.{arith}
use Prim.Native.Nat.{◌+◌, ◌-◌}
use mathlib.Core.Path.{◌≡◌, sym, ◌∙◌}
use Rattle.ascii_row.proofs.check_fields.Goals as goal
use Rattle.ascii_row.proofs.check_fields.Goals.{After-field_fine}

pub loop-k-init : goal.loop-k-init
loop-k-init c =
    let e : 2 + c.args.count - 2 ≡ c.args.count = omega arith in
    (omega arith, rw e)

pub slice_bounds-field_fine-end : goal.slice_bounds-field_fine-end
slice_bounds-field_fine-end c = sym (length-take-le _ _ (rw c.field_length-m.ensures (field-within c.loop-k.t.now)))

-- what the check of field k found
fine : (c : After-field_fine)
    → field_fine c.args.layout c.loop-k.k (first_field c.loop-k.t.now) ≡ c.field_fine.result
fine c = sym (c.field_fine.ensures ∙ rw c.field_length-m.ensures)

pub returns-then-not-field_fine : goal.returns-then-not-field_fine
returns-then-not-field_fine c =
    let loop = c.loop-k in
    rw (c.refused.ensures, loop.invariant.1, fields-turn _ _ loop.t.now loop.k _ c.loop-k-test.true, fine (goal.at.returns-then-not-field_fine c).After-field_fine, c.if-not-field_fine.true)

pub loop-k-preserved : goal.loop-k-preserved
loop-k-preserved c =
    let loop = c.loop-k in
    let t = loop.t.now in
    let m = c.field_length-m.ensures in
    let k = c.with_comma-taken.ensures in (
      omega (arith, walk-shorter t _ _ m k),
      loop.invariant.1 ∙ rw (fields-turn _ _ t loop.k _ c.loop-k-test.true, fine (goal.at.loop-k-preserved c).After-field_fine, c.if-not-field_fine.false, walk-on t _ _ m k),
    )

pub returns : goal.returns
unfolding check_fields
returns c =
    let e : 2 + c.args.count - c.loop-k.k ≡ 0 = omega arith in
    rw (c.loop-k.invariant.1, e)
