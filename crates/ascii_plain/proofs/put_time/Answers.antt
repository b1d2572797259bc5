-- `ascii_plain::put_time` meets its contract: the comma is the first character, and the digits fill the rest.
use mathlib.Core.Path.{◌∙◌}
use native.Mathlib.Omega.{arith}
use lib.ListN.{length-set, length-drop}
use Rattle.ground.proofs.Walk.{rest}
use Rattle.ground.proofs.Parts.{put_first}
use Rattle.ascii_plain.proofs.put_time.Goals as goal

pub slice_bounds-put_decimal-count : goal.slice_bounds-put_decimal-count
slice_bounds-put_decimal-count c = simp length-set (omega arith)

pub slice_bounds-put_decimal-start : goal.slice_bounds-put_decimal-start
slice_bounds-put_decimal-start c = simp length-set (omega arith)

pub put_decimal-requires : goal.put_decimal-requires
put_decimal-requires c = rw (rest, length-drop, length-set) (omega (arith, c.requires))

pub shape_of-d : goal.shape_of-d
shape_of-d c =
    let put = c.put_decimal in
    rw (put_first c.args.d.now put.new.d 44 (omega (arith, c.requires)), put.ensures) (omega (arith, c.requires))

pub returns : goal.returns
returns c =
    let put = c.put_decimal in
    put_first c.args.d.now put.new.d 44 (omega (arith, c.requires)) ∙ rw put.ensures
