-- `binary_row::unpack_word` meets its contract. The loop's invariant: the first i places have the low bits of the word, and the rest is as it was.
use mathlib.Core.Path.{◌≡◌, ◌∙◌}
use mathlib.Core.List.{append-nil}
use native.Mathlib.Omega.{arith}
use lib.ListN.{length}
use lib.Seq.{drop-length}
use Rattle.ground.proofs.Tables.{tab-set}
use Rattle.binary_row.specs.Rows.{bit_of}
use Rattle.binary_row.proofs.BitLaws.{low_bit}
use Rattle.binary_row.proofs.unpack_word.Goals as goal

pub loop-i-preserved : goal.loop-i-preserved
loop-i-preserved c =
    rw (low_bit, c.loop-i.invariant) (tab-set (bit_of c.args.word) c.args.d.now c.loop-i.i (omega arith))

pub returns : goal.returns
returns c =
    let e : c.loop-i.i ≡ length c.args.d.now = omega arith in
    c.loop-i.invariant ∙ rw (e, drop-length, append-nil)
