-- `binary_row::padding_free` meets its contract: the mask finds a bit where the quotient by the power of two is not zero.
use mathlib.Core.Path.{◌∙◌}
use Prim.Native.Nat.{◌<◌, ◌*◌, ◌+◌, ◌^◌, ◌%◌, ◌/◌}
use native.Mathlib.Omega.{arith}
use borrow.Author.Tests.{ne_eqb}
use Rattle.words.proofs.WordLaws.{all-bytes, word_of-part-lt}
use Rattle.binary_row.proofs.BitLaws.{mask-test}
use Rattle.binary_row.proofs.padding_free.Goals as goal

pub returns : goal.returns
returns c =
    let d = c.args.d in
    let b = c.args.b.now in
    let small = all-bytes b c.shared_slice_known-1.given in
    let n : c.word_of-word.result < 256 ^ 2 = rw c.word_of-word.ensures (word_of-part-lt b (d / 16 * 2) (d / 16 * 2 + 2) 2 small (omega arith)) in
    mask-test c.word_of-word.result (d % 16) n (omega arith) ∙ rw (c.word_of-word.ensures, ne_eqb (d % 16) 0 c.if-k-eq0.false)
