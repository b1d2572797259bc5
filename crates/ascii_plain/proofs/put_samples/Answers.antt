-- `ascii_plain::put_samples` meets its contract. The loop's invariant: the slice begins with the samples so far, which end at from, and the rest is as it was.
use mathlib.Core.Path.{◌≡◌, sym, ap, ◌∙◌}
use mathlib.Core.List.{append-nil}
use Prim.Native.Nat.{◌<◌, ◌≤◌, ◌+◌}
use native.Mathlib.Numerals.{add-one}
use native.Mathlib.Omega.{arith}
use lib.IntN.{pos}
use lib.ListN.{length, get_or, take}
use lib.Seq.{drop-length, length-take-le}
use mir.Syntax.{w32}
use mir.Val.{to_z, of_z}
use mir.ValLaws.{to_z-of_z}
use Rattle.std.proofs.lemmas.List.{get_or-take}
use Rattle.ground.specs.Tables.{cat}
use Rattle.ground.proofs.Parts.{put_next}
use Rattle.ascii_plain.specs.Rows.{sample_text}
use Rattle.ascii_plain.specs.Inner.{samples_length}
use Rattle.ascii_plain.proofs.LengthLaws.{samples-long, samples-next, samples-within}
use Rattle.ascii_plain.proofs.put_samples.Goals as goal
use Rattle.ascii_plain.proofs.put_samples.Goals.{After-sample_length}

-- the next sample is one of the layout's, and is what the row has there, as the machine keeps it
there : (c : After-sample_length) → c.loop-z.z-index < c.args.layout.analogs
there c = let w = length-take-le c.args.layout.analogs c.args.zs.now (omega arith) in omega arith

back : (c : After-sample_length)
    → let i = c.loop-z.z-index in
    let zs = c.args.zs.now in to_z w32 (of_z w32 (get_or (take c.args.layout.analogs zs) i (pos 0))) ≡ get_or zs i (pos 0)
back c =
    let z = get_or (take c.args.layout.analogs c.args.zs.now) c.loop-z.z-index (pos 0) in
    to_z-of_z w32 z (record { sfits = c.z-1.given }) ∙ get_or-take c.args.layout.analogs c.args.zs.now c.loop-z.z-index (pos 0) (there c)

-- what it takes lies within the slice
long : (c : After-sample_length) → c.sample_length.result ≡ length (sample_text c.args.layout c.args.zs.now c.loop-z.z-index)
long c = c.sample_length.ensures ∙ rw (back c) (omega arith)

room : (c : After-sample_length) → c.loop-z.from + c.sample_length.result ≤ length c.loop-z.d
room c =
    omega (arith, long c, samples-within c.args.layout c.args.zs.now c.loop-z.z-index c.args.layout.analogs (there c))

pub overflow_add-to : goal.overflow_add-to
overflow_add-to c = omega (arith, room (goal.at.overflow_add-to c).After-sample_length)

pub slice_bounds-put_sample-end : goal.slice_bounds-put_sample-end
slice_bounds-put_sample-end c = room (goal.at.slice_bounds-put_sample-end c).After-sample_length

pub loop-z-preserved : goal.loop-z-preserved
loop-z-preserved c =
    let l = c.args.layout in
    let zs = c.args.zs.now in
    let p = c.loop-z in
    let i = p.z-index in
    let k = c.sample_length.result in
    let to = p.from + k in
    let ys = c.put_sample.new.d in
    let e = long (goal.at.loop-z-preserved c).After-sample_length in
    let r = room (goal.at.loop-z-preserved c).After-sample_length in
    let y : ys ≡ sample_text l zs i = c.put_sample.ensures ∙ rw (back (goal.at.loop-z-preserved c).After-sample_length) in
    let m : length ys ≡ k = rw (y, e) in
    let P = cat (sample_text l zs) i in
    let n = put_next c.args.d.now P ys p.from to (samples-long l zs i ∙ sym p.invariant.0) (omega arith) in (
      rw samples-next (omega arith),
      rw p.invariant.1 (n ∙ rw (y, add-one)),
    )

pub returns : goal.returns
returns c =
    let l = c.args.layout in
    let zs = c.args.zs.now in
    let w = length-take-le l.analogs zs (omega arith) in
    let e : c.loop-z.z-index ≡ l.analogs = omega arith in
    let m : length c.args.d.now ≡ c.loop-z.from = c.requires.1 ∙ ap (samples_length l zs) (sym e) ∙ sym c.loop-z.invariant.0 in
    c.loop-z.invariant.1 ∙ rw (← m, drop-length, append-nil) (ap (cat (sample_text l zs)) e)
