-- `fits_sample` meets its contract: a number of the kind binary fits, "there is none" fits, and any other where the layout holds it.
use mathlib.Core.Path.{◌≡◌, sym, ◌∙◌}
use mathlib.Core.Bool.{true}
use Prim.Native.Nat.{◌<◌}
use lib.IntN.{nat_abs}
use mir.Syntax.{w64}
use mir.ValLaws.{to_z-of_z}
use Rattle.ground.proofs.Cases.{on_test}
use Rattle.model.specs.Samples.{is_none}
use Rattle.model.proofs.SampleLaws.{short-holds}
use Rattle.row_places.specs.Rows.{fits_sample}
use Rattle.row_places.proofs.fits_sample.Goals as goal
use Rattle.row_places.proofs.fits_sample.Goals.{then-is_short, else-is_short}

pub returns-then-is_none : goal.returns-then-is_none
unfolding fits_sample
returns-then-is_none c =
    let z = c.args.z in
    elim c.if-is_short.branch [
      | then-is_short w ↦
          let small : nat_abs z < 32768 = rw (to_z-of_z w64 z c.ranges.z) at (c.is_short.ensures w.if-is_short.true) in
          rw (c.if-is_none.true, short-holds c.args.layout z small) (on_test (is_none z) (λ t. rw t) (λ t. rw t))
      | else-is_short w ↦
          let e : is_none z ≡ true = sym (rw (to_z-of_z w64 z c.ranges.z) at w.is_none.ensures) ∙ sym w.value-is ∙ c.if-is_none.true in
          rw (c.if-is_none.true, e)
    ]
