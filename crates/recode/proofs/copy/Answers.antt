-- `recode::copy` meets its contract. The loop's invariant: the first i bytes are copied, and the rest is as it was.
use mathlib.Core.Path.{◌∙◌, ◌≡◌}
use mathlib.Core.List.{append-nil}
use lib.Seq.{drop-length}
use Rattle.ground.proofs.Tables.{tab-set, tab-get_or}
use native.Mathlib.Omega.{arith}
use lib.ListN.{length-set, length, get_or}
use Rattle.recode.proofs.copy.Goals as goal

pub loop-i-preserved : goal.loop-i-preserved
loop-i-preserved c =
    let p = c.loop-i in
    (simp length-set p.invariant.0, rw p.invariant.1 (tab-set (λ j. get_or c.args.b.now j 0) c.args.d.now p.i (omega arith)))

pub returns : goal.returns
returns c =
    let e : c.loop-i.i ≡ length c.args.d.now = omega arith in
    c.loop-i.invariant.1 ∙ rw (e, drop-length, append-nil, c.requires) (tab-get_or c.args.b.now 0)
