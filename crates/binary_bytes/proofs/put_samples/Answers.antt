-- `binary_bytes::put_samples` meets its contract. The loop's invariant: the slice begins with the bytes of i samples, and the rest is as it was.
use mathlib.Core.Path.{◌≡◌, ap, ◌∙◌}
use mathlib.Core.List.{append-nil}
use Prim.Native.Nat.{◌≤◌, ◌*◌, ◌+◌}
use native.Mathlib.Nat.{zero-mul}
use native.Mathlib.Omega.{arith}
use lib.IntN.{pos}
use lib.ListN.{length, get_or}
use lib.Seq.{drop-length}
use mir.Syntax.{w32}
use mir.Val.{to_z, of_z}
use mir.ValLaws.{to_z-of_z}
use Rattle.ground.proofs.Tables.{block-end, cat-turn}
use Rattle.words.specs.Words.{word_bytes}
use Rattle.model.specs.Samples.{word_of_sample}
use Rattle.words.proofs.WordLaws.{length-word_bytes, put-part}
use Rattle.model.proofs.KindLaws.{half_le}
use Rattle.model.proofs.SampleLaws.{fits_word}
use Rattle.binary_bytes.specs.Rows.{sample_bytes}
use Rattle.model.proofs.FitLaws.{misfit-all}
use Rattle.binary_bytes.proofs.put_samples.Goals as goal
use Rattle.binary_bytes.proofs.put_samples.Goals.{After-z-1, In-loop-i}

pub loop-i-init : goal.loop-i-init
loop-i-init c = rw zero-mul

-- the bytes of sample i lie within the slice
room : (c : In-loop-i) → let w = c.width-width.result in c.loop-i.i * w + w ≤ length c.loop-i.d
room c =
    let e : length c.loop-i.d ≡ length c.args.d.now = omega arith in
    rw (e, c.requires.1, ← c.width-width.ensures) (block-end c.loop-i.i c.args.layout.analogs c.width-width.result c.loop-i-test.true)

pub overflow_mul-from : goal.overflow_mul-from
overflow_mul-from c = omega (arith, room (goal.at.overflow_mul-from c).In-loop-i)

pub overflow_add-to : goal.overflow_add-to
overflow_add-to c = omega (arith, room (goal.at.overflow_add-to c).In-loop-i)

-- sample i, as the machine keeps it
back : (c : After-z-1) → let z = get_or c.args.zs.now c.loop-i.i (pos 0) in to_z w32 (of_z w32 z) ≡ z
back c = to_z-of_z w32 (get_or c.args.zs.now c.loop-i.i (pos 0)) (record { sfits = c.z-1.given })

pub word_of_sample-n-requires : goal.word_of_sample-n-requires
word_of_sample-n-requires c =
    let l = c.args.layout in
    let zs = c.args.zs.now in
    let i = c.loop-i.i in
    let fit = misfit-all l zs c.requires.2 i c.loop-i-test.true in
    rw (back (goal.at.word_of_sample-n-requires c).After-z-1, c.half-half.ensures) (half_le l.kind, fits_word l (get_or zs i (pos 0)) fit)

pub slice_bounds-put_word-end : goal.slice_bounds-put_word-end
slice_bounds-put_word-end c = room (goal.at.slice_bounds-put_word-end c).In-loop-i

pub loop-i-preserved : goal.loop-i-preserved
loop-i-preserved c =
    let p = c.loop-i in
    let w = c.width-width.result in
    let h = c.half-half.result in
    let u = c.word_of_sample-n in
    let put = c.put_word in
    let r = room (goal.at.loop-i-preserved c).In-loop-i in
    let n = u.ensures ∙ ap (word_of_sample h) (back (goal.at.loop-i-preserved c).After-z-1) in
    let y = put-part p.d (p.i * w) w u.result put.new.d r put.ensures ∙ ap (word_bytes w) n in
    let t =
    cat-turn (sample_bytes w h c.args.zs.now) w (λ i. length-word_bytes w _) c.args.d.now p.d put.new.d p.i (omega arith) p.invariant r y in
    t.1

pub returns : goal.returns
returns c =
    let e : c.loop-i.i ≡ c.args.layout.analogs = omega arith in
    let l : length c.args.d.now ≡ c.args.layout.analogs * c.width-width.result = c.requires.1 ∙ rw c.width-width.ensures in
    c.loop-i.invariant ∙ rw (e, ← l, drop-length, append-nil, c.half-half.ensures, c.width-width.ensures)
