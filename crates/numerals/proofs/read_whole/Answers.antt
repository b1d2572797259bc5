-- `read_whole` meets its contract.
use mathlib.Core.Path.{sym, ◌∙◌}
use lib.Dec.{lit≤}
use Rattle.ground.proofs.Walk.{rest}
use Rattle.numerals.specs.Wholes.{read_whole}
use Rattle.numerals.proofs.CountLaws.{length-left, spaces-within}
use Rattle.numerals.proofs.read_whole.Goals as goal

pub returns-then-not-length_in : goal.returns-then-not-length_in
unfolding read_whole
returns-then-not-length_in c = rw (← c.length_in.ensures, c.if-not-length_in.true)

pub slice_bounds-signed_number-count : goal.slice_bounds-signed_number-count
slice_bounds-signed_number-count c = rw c.leading_spaces-n.ensures (spaces-within c.args.field.now)

pub slice_bounds-signed_number-start : goal.slice_bounds-signed_number-start
slice_bounds-signed_number-start c = rw c.leading_spaces-n.ensures (spaces-within c.args.field.now)

pub signed_number-requires : goal.signed_number-requires
signed_number-requires c =
    let long = c.length_in in
    length-left 1 13 18 c.args.field.now c.leading_spaces-n.result
    (sym long.ensures ∙ c.if-not-length_in.false) (lit≤ tt)

pub returns : goal.returns
unfolding read_whole
returns c =
    let long = c.length_in in
    rw (c.signed_number.ensures, rest, ← long.ensures, c.if-not-length_in.false, ← c.leading_spaces-n.ensures)
