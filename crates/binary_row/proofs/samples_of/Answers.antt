-- `binary_row::samples_of` meets its contract. The loop's invariant: the first i places have their samples, and the rest is zero.
use mathlib.Core.Path.{◌≡◌, ◌∙◌}
use Prim.Native.Nat.{◌≤◌, ◌<◌, ◌*◌, ◌-◌, ◌+◌, ◌^◌}
use native.Mathlib.Nat.{le_trans}
use native.Mathlib.Omega.{arith}
use lib.IntN.{pos}
use lib.ListN.{length}
use mir.Syntax.{w32}
use mir.ValLaws.{to_z-of_z}
use Rattle.ground.proofs.Parts.{length-part-le}
use Rattle.ground.proofs.Tables.{block-end, padded-set}
use Rattle.words.proofs.WordLaws.{all-bytes, word_of-part-lt}
use Rattle.model.specs.Kinds.{width_of}
use Rattle.model.proofs.KindLaws.{half_le, kind-half-twice, width-le}
use Rattle.binary_row.specs.Rows.{bytes_sample}
use Rattle.binary_row.proofs.samples_of.Goals as goal
use Rattle.binary_row.proofs.samples_of.Goals.{In-loop-i}

-- the bytes of sample i lie within the slice
room : (c : In-loop-i) → let w = c.width-width.result in c.loop-i.i * w + w ≤ length c.args.b.now
room c =
    rw (c.requires.1, ← c.width-width.ensures) (block-end c.loop-i.i c.args.a c.width-width.result c.loop-i-test.true)

pub overflow_mul-from : goal.overflow_mul-from
overflow_mul-from c = omega (arith, room (goal.at.overflow_mul-from c).In-loop-i)

pub overflow_add-to : goal.overflow_add-to
overflow_add-to c = omega (arith, room (goal.at.overflow_add-to c).In-loop-i)

pub slice_bounds-word_of-end : goal.slice_bounds-word_of-end
slice_bounds-word_of-end c = room (goal.at.slice_bounds-word_of-end c).In-loop-i

pub word_of-n-requires : goal.word_of-n-requires
word_of-n-requires c =
    let w = c.width-width.result in
    let f = c.loop-i.i * w in
    let four : w ≤ 4 = rw c.width-width.ensures (width-le c.args.kind) in
    le_trans (length-part-le f (f + w) c.args.b.now) (omega arith)

pub sample_of_word-requires : goal.sample_of_word-requires
sample_of_word-requires c =
    let k = c.args.kind in
    let b = c.args.b.now in
    let w = c.width-width.result in
    let f = c.loop-i.i * w in
    let known = all-bytes b c.shared_slice_known-1.given in
    let short : f + w - f ≤ width_of k = rw c.width-width.ensures (omega arith) in
    let n : c.word_of-n.result < 256 ^ width_of k = rw c.word_of-n.ensures (word_of-part-lt b f (f + w) (width_of k) known short) in
    rw c.half-half.ensures (half_le k, rw kind-half-twice n)

pub loop-i-preserved : goal.loop-i-preserved
loop-i-preserved c =
    let z = c.sample_of_word in
    let f = bytes_sample c.width-width.result c.half-half.result c.args.b.now in
    let kept = to_z-of_z w32 z.result (record { sfits = z.type_inv }) in
    rw (kept, z.ensures, c.word_of-n.ensures, c.loop-i.invariant) (padded-set f c.loop-i.i 96 (pos 0) (omega arith))

pub returns : goal.returns
returns c =
    let e : c.loop-i.i ≡ c.args.a = omega arith in
    c.loop-i.invariant ∙ rw (e, c.half-half.ensures, c.width-width.ensures)
