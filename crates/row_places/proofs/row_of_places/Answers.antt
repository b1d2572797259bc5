-- `row_places::row_of_places` meets its contract: each part of the row is read from its places.
use Rattle.row_places.proofs.UnfitLaws.{time-small, sample-small}
use Rattle.row_places.proofs.RowLaws.{part_at, filled-part}
use Rattle.row_places.specs.Rows.{place_sample, row_of_places}
use Rattle.ground.proofs.Parts.{length-part-le}
use mathlib.Core.Path.{◌≡◌, ap, ◌∙◌}
use mathlib.Core.Bool.{false}
use Prim.Native.Nat.{◌+◌}
use native.Mathlib.Omega.{arith}
use lib.IntN.{pos, nat_abs}
use lib.ListN.{get_or}
use lib.Signed.{lt_z}
use mir.ValLaws.{to_z-of_z}
use mir.Syntax.{w64}
use Rattle.row_places.proofs.row_of_places.Goals as goal
use Rattle.row_places.proofs.row_of_places.Goals.{After-size-time}

-- the time that the first place says
time : (c : After-size-time) → c.size-time.result ≡ nat_abs (get_or c.args.zs.now 0 (pos 0))
time c = c.size-time.ensures ∙ ap nat_abs (to_z-of_z w64 (get_or c.args.zs.now 0 (pos 0)) (record { sfits = c.size-arg-1.given }))

pub overflow_cast-time : goal.overflow_cast-time
overflow_cast-time c = rw (time c) (omega (arith, time-small c.args.layout c.args.zs.now c.requires.2))

pub samples_of-samples-requires : goal.samples_of-samples-requires
samples_of-samples-requires c =
    let a = c.args.layout.analogs in
    let zs = c.args.zs.now in
    let short = length-part-le 1 (1 + a) zs in
    (omega (arith, short, c.requires.0.analogs), λ i h. rw (part_at 1 (1 + a) i zs (pos 0) (omega (arith, short))) (sample-small c.args.layout zs c.requires.2 i (omega (arith, short))))

pub returns : goal.returns
unfolding row_of_places
returns c =
    let l = c.args.layout in
    let zs = c.args.zs.now in
    let samples = c.samples_of-samples.ensures ∙ filled-part place_sample 1 l.analogs 96 zs (pos 0) (pos 0) (omega (arith, c.requires.1)) in
    let end = c.places_of-end.ensures in
    let statuses = rw end at c.statuses_of-statuses.ensures ∙ filled-part (lt_z (pos 0)) (1 + l.analogs) l.statuses 256 zs (pos 0) false (omega (arith, c.requires.1)) in
    rw (time (goal.at.returns c).After-size-time, samples, statuses)
