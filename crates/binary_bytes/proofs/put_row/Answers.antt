-- `binary_bytes::put_row` meets its contract: number and timestamp fill the first part, samples and words the second.
use mathlib.Core.Path.{◌≡◌, refl, sym, ◌∙◌}
use Prim.Native.Nat.{◌-◌}
use native.Mathlib.Omega.{arith}
use borrow.Author.Rules.{rules}
use lib.ListN.{length, take}
use lib.Seq.{length-take-le}
use Rattle.ground.proofs.Parts.{halves, half_length}
use Rattle.binary_bytes.specs.Rows.{binary_of}
use Rattle.binary_row.proofs.SizeLaws.{sizes}
use Rattle.binary_bytes.proofs.put_row.Goals as goal
use Rattle.binary_bytes.proofs.put_row.Goals.{Start}

-- the row's arrays have their lengths, and the head its place
wide : (c : Start) → length c.args.row.samples ≡ 96
wide c = search rules

long : (c : Start) → length c.args.row.statuses ≡ 256
long c = search rules

head : (c : Start) → length (take 8 c.args.d.now) ≡ 8
head c = length-take-le 8 c.args.d.now (omega (arith, sizes c.args.layout))

pub slice_bounds-put_head-end : goal.slice_bounds-put_head-end
slice_bounds-put_head-end c = omega (arith, sizes c.args.layout)

pub slice_bounds-put_head-end-2 : goal.slice_bounds-put_head-end-2
slice_bounds-put_head-end-2 c = sym (head (goal.at.slice_bounds-put_head-end-2 c).Start)

pub put_head-requires : goal.put_head-requires
put_head-requires c = head (goal.at.put_head-requires c).Start

pub slice_bounds-put_body-count : goal.slice_bounds-put_body-count
slice_bounds-put_body-count c = omega (arith, sizes c.args.layout)

pub slice_bounds-put_body-start : goal.slice_bounds-put_body-start
slice_bounds-put_body-start c = slice_bounds-put_body-count c

pub put_body-requires : goal.put_body-requires
put_body-requires c =
    let f = c.put_head in
    let e = sizes c.args.layout in
    let k = f.auto.d ∙ head (goal.at.put_body-requires c).Start in
    let w = wide (goal.at.put_body-requires c).Start in
    let v = long (goal.at.put_body-requires c).Start in record { analogs_in_bounds = (omega (arith, c.requires.0.analogs), c.requires.2); statuses_bound = (c.requires.0.statuses, omega (arith, c.requires.0.statuses), half_length c.args.d.now f.new.d 8 (length c.args.d.now) k (omega arith) (omega arith) ∙ omega arith) }

pub returns : goal.returns
unfolding binary_of
returns c =
    let f = c.put_head in
    let g = c.put_body in
    let d = c.args.d.now in
    let e = sizes c.args.layout in
    let p = f.new.d in
    let q = g.new.d in
    let lp : length p ≡ 8 = f.auto.d ∙ head (goal.at.returns c).Start in
    let lq : length q ≡ length d - 8 = g.auto.d ∙ half_length d p 8 (length d) lp (omega arith) (omega arith) in
    halves d p q 8 (length d) lp (omega arith) refl ∙ rw (f.ensures, g.ensures)
