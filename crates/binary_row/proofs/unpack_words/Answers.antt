-- `binary_row::unpack_words` meets its contract. The loop's invariant: the statuses of j words stand in the slice, and the rest is as it was.
use mathlib.Core.Path.{◌≡◌, ◌∙◌}
use mathlib.Core.List.{append-nil}
use Prim.Native.Nat.{◌≤◌, ◌*◌, ◌-◌, ◌+◌, min}
use native.Mathlib.Omega.{arith}
use lib.ListN.{length}
use lib.Seq.{drop-length}
use Rattle.ground.specs.Tables.{tab}
use Rattle.ground.proofs.Parts.{length_part}
use Rattle.binary_row.specs.Rows.{word_status}
use Rattle.ground.proofs.Filled.{tab-turn}
use Rattle.binary_row.proofs.BitLaws.{word-statuses}
use Rattle.binary_row.proofs.unpack_words.Goals as goal

pub loop-j-init : goal.loop-j-init
loop-j-init c =
    let z : min 0 (length c.args.d.now) ≡ 0 = omega arith in
    rw z

pub loop-j-preserved : goal.loop-j-preserved
loop-j-preserved c =
    let p = c.loop-j in
    let n = length c.args.d.now in
    let f = p.j * 16 in
    let t = c.lesser-to.result in
    let b : f ≤ t = omega arith in
    let k : t ≤ length p.d = omega arith in
    let m : min f n ≡ f = omega arith in
    let y : c.unpack_word.new.d ≡ tab (λ i. word_status c.args.b.now (f + i)) (t - f)
    = c.unpack_word.ensures ∙ rw (length_part f t p.d k, c.word_of-word.ensures) (word-statuses c.args.b.now p.j (t - f) (omega arith)) in
    let q = tab-turn (word_status c.args.b.now) c.args.d.now p.d c.unpack_word.new.d f t (omega arith) (rw m at p.invariant) b k y in
    let e : min ((p.j + 1) * 16) n ≡ t = omega arith in
    rw e q.1

pub returns : goal.returns
returns c =
    let n = length c.args.d.now in
    let e : min (c.loop-j.j * 16) n ≡ n = omega arith in
    c.loop-j.invariant ∙ rw (e, drop-length, append-nil)
