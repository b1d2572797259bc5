-- `ascii_walk::row_end` meets its contract: each part was read from where the one before it ends.
use Rattle.std.proofs.lemmas.Option.{IfSome_then}
use Rattle.ascii_walk.specs.Inner.{LineEnd, RowThere}
use Rattle.ascii_walk.proofs.WalkLaws.{next-time, row_walked}
use Rattle.ascii_walk.proofs.row_end.Goals as goal

pub returns : goal.returns
returns c =
    let l = c.args.layout in
    let s = c.args.s.now in
    let number = c.in_ok-number.ensures in
    let time = c.in_ok-time.ensures in
    let samples = c.in_ok-samples.ensures in
    let statuses = c.in_ok-end.ensures in
    IfSome_then _ {P = LineEnd s c.in_ok-end.end} {Q = RowThere l c.args.n s} c.line_end.ensures
    (λ taken e. rw e.takes (row_walked l _ s _ _ _ _ number (next-time l s _ _ time) samples.1 (statuses.1 l) e.within e.short e.cr e.lf))
