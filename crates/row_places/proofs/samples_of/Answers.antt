-- `row_places::samples_of` meets its contract. The loop's invariant: the first i places have their samples, and the rest is zero.
use mathlib.Core.Path.{◌≡◌, ◌∙◌}
use native.Mathlib.Omega.{arith}
use lib.IntN.{pos}
use lib.ListN.{length, get_or}
use mir.Syntax.{w32, w64}
use mir.ValLaws.{to_z-of_z}
use Rattle.ground.proofs.Tables.{padded-set}
use Rattle.row_places.specs.Rows.{place_sample}
use Rattle.row_places.proofs.samples_of.Goals as goal

pub place_sample-requires : goal.place_sample-requires
place_sample-requires c =
    let z = get_or c.args.zs.now c.loop-i.i (pos 0) in
    rw (to_z-of_z w64 z (record { sfits = c.place_sample-arg-1.given })) (c.requires.1 c.loop-i.i c.loop-i-test.true)

pub loop-i-preserved : goal.loop-i-preserved
loop-i-preserved c =
    let zs = c.args.zs.now in
    let i = c.loop-i.i in
    let z = c.place_sample in
    let read = to_z-of_z w64 (get_or zs i (pos 0)) (record { sfits = c.place_sample-arg-1.given }) in
    rw (to_z-of_z w32 z.result (record { sfits = z.type_inv }), z.ensures, read, c.loop-i.invariant) (padded-set (λ i. place_sample (get_or zs i (pos 0))) i 96 (pos 0) (omega arith))

pub returns : goal.returns
returns c = let e : c.loop-i.i ≡ length c.args.zs.now = omega arith in c.loop-i.invariant ∙ rw e
