-- `read_count` meets its contract.
use mathlib.Core.Path.{sym, ◌∙◌}
use Rattle.ground.proofs.Walk.{rest}
use Rattle.numerals.specs.Counts.{read_count}
use Rattle.numerals.proofs.CountLaws.{length-left, spaces-within}
use Rattle.numerals.proofs.read_count.Goals as goal

pub returns-then-not-length_in : goal.returns-then-not-length_in
unfolding read_count
returns-then-not-length_in c = rw (← c.length_in.ensures, c.if-not-length_in.true)

pub slice_bounds-number_of-count : goal.slice_bounds-number_of-count
slice_bounds-number_of-count c = rw c.leading_spaces-n.ensures (spaces-within c.args.field.now)

pub slice_bounds-number_of-start : goal.slice_bounds-number_of-start
slice_bounds-number_of-start c = rw c.leading_spaces-n.ensures (spaces-within c.args.field.now)

pub number_of-requires : goal.number_of-requires
number_of-requires c =
    let long = c.length_in in
    length-left c.args.least c.args.most 19 c.args.field.now c.leading_spaces-n.result
    (sym long.ensures ∙ c.if-not-length_in.false) c.requires

pub returns : goal.returns
unfolding read_count
returns c =
    let long = c.length_in in
    rw (c.number_of.ensures, rest, ← long.ensures, c.if-not-length_in.false, ← c.leading_spaces-n.ensures)
