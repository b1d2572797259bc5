-- `row_places::put_channels` meets its contract: the samples fill the first part, and the statuses the second.
use mathlib.Core.Path.{◌≡◌, refl, ap, ◌∙◌}
use Prim.Native.Nat.{◌-◌}
use native.Mathlib.Omega.{arith}
use mathlib.Core.List.{◌∷◌, ◌++◌}
use lib.IntN.{pos}
use lib.ListN.{length, take, drop}
use Rattle.ground.specs.Tables.{part}
use lib.Seq.{length-take-le}
use Rattle.ground.proofs.Parts.{halves, half_length}
use Rattle.row_places.specs.Rows.{row_places}
use Rattle.row_places.proofs.put_channels.Goals as goal
use Rattle.row_places.proofs.put_channels.Goals.{Start}

-- the samples have as many places as there are analog channels
front : (c : Start) → length (take c.args.layout.analogs c.args.d.now) ≡ c.args.layout.analogs
front c = length-take-le c.args.layout.analogs c.args.d.now (omega arith)

pub returns : goal.returns
unfolding row_places
returns c =
    let d = c.args.d.now in
    let a = c.args.layout.analogs in
    let first = c.put_samples in
    let second = c.put_statuses in
    let p = first.new.d in
    let q = second.new.d in
    let lp : length p ≡ a = first.auto.d ∙ front (goal.at.returns c).Start in
    let half = half_length d p a (length d) lp (omega arith) (omega arith) in
    let back : length (part a (length d) (p ++ drop a d)) ≡ c.args.layout.statuses = half ∙ omega arith in
    let lq : length q ≡ length d - a = second.auto.d ∙ half in
    ap (λ xs. pos c.args.row.time ∷ xs) (halves d p q a (length d) lp (omega arith) refl ∙ rw (first.ensures, second.ensures, front (goal.at.returns c).Start, back))
