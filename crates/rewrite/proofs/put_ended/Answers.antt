-- `rewrite::put_ended` meets its contract: the line, and then CR LF.
use Rattle.pieces.proofs.Laws.{put_then}
use Rattle.rewrite.proofs.put_ended.Goals as goal

pub returns : goal.returns
returns c = put_then c.put_line-m.ensures c.put_all.ensures
