-- `ascii_plain::samples_length` meets its contract. The loop's invariant: n is the length of the samples so far, at most 12 each.
use mathlib.Core.Path.{◌≡◌, ap, ◌∙◌}
use Prim.Native.Nat.{◌<◌, ◌≤◌, ◌+◌}
use native.Mathlib.Omega.{arith}
use lib.IntN.{ℤ, pos}
use lib.ListN.{length, get_or, take}
use lib.Seq.{length-take-le}
use mir.Syntax.{w32}
use mir.ValLaws.{to_z-of_z}
use Rattle.std.proofs.lemmas.List.{get_or-take}
use Rattle.ascii_plain.specs.Rows.{sample_chars}
use Rattle.ascii_plain.proofs.LengthLaws.{chars-short, samples-next}
use Rattle.ascii_plain.proofs.samples_length.Goals as goal
use Rattle.ascii_plain.proofs.samples_length.Goals.{After-sample_length-n}

-- what the next sample takes, the most that it can, and that it is one of the layout's
long : (c : After-sample_length-n)
    → let z = get_or c.args.zs.now c.loop-z.z-index (pos 0) in
    (c.sample_length-n.result ≡ 1 + length (sample_chars c.args.layout z)) × (c.sample_length-n.result ≤ 12) × (c.loop-z.z-index < c.args.layout.analogs)
long c =
    let l = c.args.layout in
    let i = c.loop-z.z-index in
    let zs = c.args.zs.now in
    let z = get_or zs i (pos 0) in
    let w : length (take l.analogs zs) ≡ l.analogs = length-take-le _ _ (omega arith) in
    let h : get_or (take l.analogs zs) i (pos 0) ≡ z = get_or-take l.analogs zs i (pos 0) (omega arith) in
    let f = rw h at c.z-1.given in
    let e : c.sample_length-n.result ≡ 1 + length (sample_chars l z) = rw h at c.sample_length-n.ensures ∙ ap (λ (y : ℤ). 1 + length (sample_chars l y)) (to_z-of_z w32 z (record { sfits = f })) in
    (e, omega (arith, chars-short l z f), omega arith)

pub overflow_add-n : goal.overflow_add-n
overflow_add-n c = let s = long (goal.at.overflow_add-n c).After-sample_length-n in omega (arith, s.1, s.2)

pub loop-z-preserved : goal.loop-z-preserved
loop-z-preserved c =
    let s = long (goal.at.loop-z-preserved c).After-sample_length-n in
    (omega (arith, s.1), rw samples-next (omega (arith, s.0)))

pub returns : goal.returns
returns c =
    let w = length-take-le c.args.layout.analogs c.args.zs.now (omega arith) in
    let e : c.loop-z.z-index ≡ c.args.layout.analogs = omega arith in
    record { value = c.loop-z.invariant.1 ∙ rw e; upper_bound = omega arith }
