-- A read fills the room on from n with the reader's next bytes.
use Rattle.std.proofs.Common.{rules, subst, sym}
use Rattle.std.specs.Io.KnownBytes.{Consumes}
use Rattle.std.proofs.KnownBytes.{Consumes-trans}
use Rattle.list.proofs.Laws.{take-more}
use Rattle.list.proofs.read_all.Goals as goal

pub loop-n-preserved : goal.loop-n-preserved
loop-n-preserved g c =
    let joined = take-more c.loop-n.n _ c.in_ok-more.more c.loop-n.room c.read.new.buf c.loop-n.invariant.within c.in_ok-more.ensures.bound.0 in
    record {
      within = search rules;
      bytes = subst (Consumes _ _) (sym joined) (Consumes-trans _ _ _ _ _ c.loop-n.invariant.bytes c.in_ok-more.ensures.bytes.0);
    }
