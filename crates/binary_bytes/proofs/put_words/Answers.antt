-- `binary_bytes::put_words` meets its contract. The loop's invariant: the slice begins with the bytes of j words, and the rest is as it was.
use mathlib.Core.Path.{◌≡◌, ap, ◌∙◌}
use mathlib.Core.List.{append-nil}
use Prim.Native.Nat.{◌≤◌, ◌*◌, ◌+◌}
use native.Mathlib.Omega.{arith}
use lib.ListN.{length}
use lib.Seq.{drop-length}
use Rattle.ground.specs.Tables.{part}
use Rattle.ground.proofs.Tables.{cat-turn}
use Rattle.words.specs.Words.{word_bytes}
use Rattle.words.proofs.WordLaws.{length-word_bytes, put-part}
use Rattle.binary_row.specs.Rows.{words_of}
use Rattle.binary_bytes.specs.Rows.{packed, word_end, word_bytes_at}
use Rattle.binary_bytes.proofs.put_words.Goals as goal

pub loop-j-preserved : goal.loop-j-preserved
loop-j-preserved c =
    let p = c.loop-j in
    let pack = c.pack_word-word in
    let put = c.put_word in
    let f = word_bytes_at c.args.count c.args.s.now in
    let room : p.j * 2 + 2 ≤ length p.d = omega arith in
    let n : pack.result ≡ packed (part (p.j * 16) (word_end c.args.count p.j) c.args.s.now) = pack.ensures ∙ rw c.lesser-to.ensures in
    let y = put-part p.d (p.j * 2) 2 pack.result put.new.d room put.ensures ∙ ap (word_bytes 2) n in
    let t = cat-turn f 2 (λ i. length-word_bytes 2 _) c.args.d.now p.d put.new.d p.j (omega arith) p.invariant room y in
    t.1

pub returns : goal.returns
returns c =
    let e : c.loop-j.j ≡ words_of c.args.count = omega arith in
    let l : length c.args.d.now ≡ words_of c.args.count * 2 = omega arith in
    c.loop-j.invariant ∙ rw (e, ← l, drop-length, append-nil)
