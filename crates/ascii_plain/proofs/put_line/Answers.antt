-- `ascii_plain::put_line` meets its contract: number and timestamp fill the first part, the channels the second.
use mathlib.Core.Path.{◌≡◌, refl, sym, ◌∙◌}
use Prim.Native.Nat.{◌+◌, ◌*◌, ◌-◌}
use native.Mathlib.Omega.{arith}
use borrow.Author.Rules.{rules}
use lib.ListN.{length, take}
use lib.Seq.{length-take-le}
use Rattle.ground.proofs.Parts.{halves, half_length}
use Rattle.ascii_plain.specs.Rows.{line_of}
use Rattle.ascii_plain.specs.Inner.{samples_length}
use Rattle.ascii_plain.proofs.LengthLaws.{length-line}
use Rattle.ascii_plain.proofs.put_line.Goals as goal
use Rattle.ascii_plain.proofs.put_line.Goals.{After-head_length-mid, Start}

-- the row's arrays have their lengths
wide : (c : Start) → length c.args.row.samples ≡ 96
wide c = search rules

long : (c : Start) → length c.args.row.statuses ≡ 256
long c = search rules

-- the head ends within the slice, and the channels where it does
room : (c : After-head_length-mid)
    → c.head_length-mid.result + (samples_length c.args.layout c.args.row.samples c.args.layout.analogs + 2 * c.args.layout.statuses) ≡ length c.args.d.now
room c = rw c.head_length-mid.ensures (sym (c.requires.1 ∙ length-line c.args.layout c.args.n c.args.row))

front : (c : After-head_length-mid) → length (take c.head_length-mid.result c.args.d.now) ≡ c.head_length-mid.result
front c = length-take-le c.head_length-mid.result c.args.d.now (omega (arith, room c))

pub slice_bounds-put_head-end : goal.slice_bounds-put_head-end
slice_bounds-put_head-end c = omega (arith, room c)

pub slice_bounds-put_head-end-2 : goal.slice_bounds-put_head-end-2
slice_bounds-put_head-end-2 c = sym (front (goal.at.slice_bounds-put_head-end-2 c).After-head_length-mid)

pub put_head-requires : goal.put_head-requires
put_head-requires c = front (goal.at.put_head-requires c).After-head_length-mid ∙ c.head_length-mid.ensures

pub slice_bounds-put_channels-count : goal.slice_bounds-put_channels-count
slice_bounds-put_channels-count c = omega (arith, room (goal.at.slice_bounds-put_channels-count c).After-head_length-mid)

pub slice_bounds-put_channels-start : goal.slice_bounds-put_channels-start
slice_bounds-put_channels-start c = slice_bounds-put_channels-count c

pub put_channels-requires : goal.put_channels-requires
put_channels-requires c =
    let f = c.put_head in
    let k = c.head_length-mid.result in
    let r = room (goal.at.put_channels-requires c).After-head_length-mid in
    let lp = f.auto.d ∙ front (goal.at.put_channels-requires c).After-head_length-mid in
    let w = wide (goal.at.put_channels-requires c).Start in
    let v = long (goal.at.put_channels-requires c).Start in
    record { analogs_in_bounds = (omega (arith, c.requires.0.analogs), omega (arith, c.requires.0.statuses)); d_len = half_length c.args.d.now f.new.d k (length c.args.d.now) lp (omega arith) (omega arith) ∙ omega arith }

pub returns : goal.returns
unfolding line_of
returns c =
    let d = c.args.d.now in
    let f = c.put_head in
    let g = c.put_channels in
    let k = c.head_length-mid.result in
    let r = room (goal.at.returns c).After-head_length-mid in
    let p = f.new.d in
    let q = g.new.d in
    let lp : length p ≡ k = f.auto.d ∙ front (goal.at.returns c).After-head_length-mid in
    let lq : length q ≡ length d - k = g.auto.d ∙ half_length d p k (length d) lp (omega arith) (omega arith) in
    halves d p q k (length d) lp (omega arith) refl ∙ rw (f.ensures, g.ensures)
