-- `read_limit` meets its contract.
use mathlib.Core.Path.{sym, ◌∙◌}
use lib.Dec.{lit≤}
use Rattle.numerals.proofs.CountLaws.{length-left, spaces-within}
use Rattle.reals.proofs.read_limit.Goals as goal

pub slice_bounds-signed_limit-count : goal.slice_bounds-signed_limit-count
slice_bounds-signed_limit-count c = rw c.leading_spaces-n.ensures (spaces-within c.args.field.now)

pub slice_bounds-signed_limit-start : goal.slice_bounds-signed_limit-start
slice_bounds-signed_limit-start c = slice_bounds-signed_limit-count c

pub signed_limit-requires : goal.signed_limit-requires
signed_limit-requires c =
    let long = c.length_in in
    length-left 1 13 13 c.args.field.now c.leading_spaces-n.result
    (sym long.ensures ∙ c.if-not-length_in.false) (lit≤ tt)
