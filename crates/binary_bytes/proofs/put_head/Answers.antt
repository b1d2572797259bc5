-- `binary_bytes::put_head` meets its contract: the number fills the first part, and the timestamp the second.
use mathlib.Core.Path.{◌≡◌, ap, ◌∙◌}
use Prim.Native.Nat.{ℕ}
use native.Mathlib.Omega.{arith}
use lib.ListN.{length}
use lib.Seq.{length-take-le}
use Rattle.ground.proofs.Parts.{halves, half_length}
use Rattle.words.specs.Words.{word_bytes}
use Rattle.words.proofs.WordLaws.{length-word_bytes}
use Rattle.binary_bytes.proofs.put_head.Goals as goal

pub returns : goal.returns
returns c =
    let f = c.put_word in
    let g = c.put_word-2 in
    let d = c.args.d.now in
    let p : f.new.d ≡ word_bytes 4 c.args.n = f.ensures ∙ ap (λ (k : ℕ). word_bytes k c.args.n) (length-take-le 4 d (omega arith)) in
    let lp = ap length p ∙ length-word_bytes 4 c.args.n in
    let q : g.new.d ≡ word_bytes 4 c.args.time = g.ensures ∙ ap (λ (k : ℕ). word_bytes k c.args.time) (half_length d f.new.d 4 8 lp (omega arith) (omega arith)) in
    let lq = ap length q ∙ length-word_bytes 4 c.args.time in
    halves d f.new.d g.new.d 4 8 lp (omega arith) c.requires ∙ rw (p, q)
