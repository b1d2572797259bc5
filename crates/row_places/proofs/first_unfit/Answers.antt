-- `row_places::first_unfit` meets its contract. The loop's invariant: the search from i on finds what the whole search does.
use Rattle.std.specs.Prelude.{if◌then◌else◌}
use mathlib.Core.Path.{◌≡◌, sym, ap, ◌∙◌}
use Prim.Native.Nat.{◌-◌, ◌+◌}
use native.Mathlib.Nat.{sub-zero}
use native.Mathlib.Omega.{arith}
use lib.IntN.{pos}
use lib.ListN.{length, get_or, take}
use lib.Seq.{length-take-le}
use Prim.Native.Nat.{◌<◌}
use Rattle.std.proofs.lemmas.List.{get_or-take}
use mir.Syntax.{w64}
use mir.ValLaws.{to_z-of_z}
use Rattle.ground.specs.Search.{fails_from}
use Rattle.ground.proofs.Search.{fail-step}
use Rattle.row_places.specs.Rows.{fits_place, unfit}
use Rattle.row_places.proofs.first_unfit.Goals as goal
use Rattle.row_places.proofs.first_unfit.Goals.{After-fits_place}

pub loop-i-init : goal.loop-i-init
unfolding unfit
loop-i-init c = rw (c.places_of-end.ensures, sub-zero)

-- what place i says of the whole search
step : (c : After-fits_place) → let i = c.loop-i.i in let end = c.places_of-end.result in
    (if c.fits_place.result then fails_from (λ j. fits_place c.args.layout j (get_or c.args.zs.now j (pos 0))) (i + 1) (end - (i + 1)) else i) ≡ unfit c.args.layout c.args.zs.now
step c =
    let zs = c.args.zs.now in
    let i = c.loop-i.i in
    let end = c.places_of-end.result in
    let n : length (take end zs) ≡ end = length-take-le end zs (rw c.places_of-end.ensures c.requires.1) in
    let l : i < end = omega arith in
    let z = get_or (take end zs) i (pos 0) in
    let f = c.fits_place.ensures ∙ ap (fits_place c.args.layout i) (to_z-of_z w64 z (record { sfits = c.fits_place-arg-1.given }) ∙ get_or-take end zs i (pos 0) l) in
    let turn = fail-step (λ j. fits_place c.args.layout j (get_or zs j (pos 0))) i end l in
    rw (f, ← turn) c.loop-i.invariant

pub returns-then-not-fits_place : goal.returns-then-not-fits_place
returns-then-not-fits_place c = rw c.if-not-fits_place.true at (step (goal.at.returns-then-not-fits_place c).After-fits_place)

pub loop-i-preserved : goal.loop-i-preserved
loop-i-preserved c = rw c.if-not-fits_place.false at (step (goal.at.loop-i-preserved c).After-fits_place)

pub returns : goal.returns
returns c =
    let end = c.places_of-end.result in
    let n : length (take end c.args.zs.now) ≡ end = length-take-le end c.args.zs.now (rw c.places_of-end.ensures c.requires.1) in
    let e : c.loop-i.i ≡ c.places_of-end.result = omega arith in
    let z : c.places_of-end.result - c.loop-i.i ≡ 0 = omega arith in
    let f : c.loop-i.i ≡ unfit c.args.layout c.args.zs.now = rw z at c.loop-i.invariant in
    rw (← f) (sym e)
