-- `Layout::fits` meets its contract: a number of the kind binary fits, a missing sample fits, and any other is kept by 64 bits.
use mathlib.Core.Path.{◌≡◌, sym, ◌∙◌}
use mathlib.Core.Bool.{true}
use Prim.Native.Nat.{◌<◌}
use lib.IntN.{nat_abs}
use mir.Syntax.{w32, w64}
use mir.Val.{to_z, of_z}
use mir.ValLaws.{to_z-of_z}
use Rattle.model.specs.Samples.{is_missing, fits}
use Rattle.model.proofs.SampleLaws.{there-fits, short-holds}
use Rattle.model.proofs.Layout.fits.Goals as goal
use Rattle.model.proofs.Layout.fits.Goals.{After-widened-wide, then-is_short, else-is_short}

-- the place of 64 bits is the place
wide : (c : After-widened-wide) → to_z w64 (of_z w64 c.widened-wide.result) ≡ c.args.z
wide c = to_z-of_z w64 c.widened-wide.result (record { sfits = c.widened-wide.type_inv }) ∙ c.widened-wide.ensures ∙ to_z-of_z w32 c.args.z c.ranges.z

pub returns-then-is_missing : goal.returns-then-is_missing
unfolding fits
returns-then-is_missing c =
    elim c.if-is_short.branch [
      | then-is_short w ↦
          let small : nat_abs c.args.z < 32768 = rw (wide (goal.at.returns-then-is_missing c).After-widened-wide) at (c.is_short.ensures w.if-is_short.true) in
          c.if-is_missing.true ∙ sym (there-fits c.args.self c.args.z (λ t. short-holds c.args.self c.args.z small))
      | else-is_short w ↦
          let e : is_missing c.args.z ≡ true = sym (rw (to_z-of_z w32 c.args.z c.ranges.z) at w.is_missing.ensures) ∙ sym w.value-is ∙ c.if-is_missing.true in
          rw (c.if-is_missing.true, e)
    ]
