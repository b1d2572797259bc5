-- `row_places::statuses_of` meets its contract. The loop's invariant: the first i places have their statuses, and the rest is off.
use mathlib.Core.Path.{◌≡◌, ◌∙◌}
use mathlib.Core.Bool.{false}
use native.Mathlib.Omega.{arith}
use lib.IntN.{pos}
use lib.ListN.{length, get_or}
use lib.Signed.{lt_z}
use mir.Syntax.{w64}
use mir.ValLaws.{to_z-of_z}
use Rattle.ground.proofs.Tables.{padded-set}
use Rattle.row_places.proofs.statuses_of.Goals as goal

pub loop-i-preserved : goal.loop-i-preserved
loop-i-preserved c =
    let zs = c.args.zs.now in
    let i = c.loop-i.i in
    let read = to_z-of_z w64 (get_or zs i (pos 0)) (record { sfits = c.out-1.given }) in
    rw (read, c.loop-i.invariant) (padded-set (λ i. lt_z (pos 0) (get_or zs i (pos 0))) i 256 false (omega arith))

pub returns : goal.returns
returns c = let e : c.loop-i.i ≡ length c.args.zs.now = omega arith in c.loop-i.invariant ∙ rw e
