-- `ascii_plain::put_text` meets its contract: the line fills the first part, and CR LF the last two bytes.
use mathlib.Core.Path.{◌≡◌, refl, sym, ap, ◌∙◌}
use Prim.Native.Nat.{◌+◌, ◌-◌}
use native.Mathlib.Omega.{arith}
use lib.ListN.{length, take}
use lib.Seq.{length-take-le}
use Rattle.ground.proofs.Parts.{halves, half_length}
use Rattle.ascii_plain.specs.Rows.{line_of, text_of}
use Rattle.ascii_plain.proofs.LengthLaws.{text-line}
use Rattle.ascii_plain.proofs.put_text.Goals as goal
use Rattle.ascii_plain.proofs.put_text.Goals.{Start}

-- the line ends 2 bytes before the slice does
room : (c : Start) → length c.args.d.now ≡ length (line_of c.args.layout c.args.n c.args.row) + 2
room c = c.requires.1 ∙ text-line c.args.layout c.args.n c.args.row

front : (c : Start) → length (take (length c.args.d.now - 2) c.args.d.now) ≡ length c.args.d.now - 2
front c = length-take-le (length c.args.d.now - 2) c.args.d.now (omega arith)

pub overflow_sub-mid : goal.overflow_sub-mid
overflow_sub-mid c = omega (arith, room (goal.at.overflow_sub-mid c).Start)

pub slice_bounds-put_line-end-2 : goal.slice_bounds-put_line-end-2
slice_bounds-put_line-end-2 c = sym (front (goal.at.slice_bounds-put_line-end-2 c).Start)

pub put_line-requires : goal.put_line-requires
put_line-requires c = (c.requires.0, front (goal.at.put_line-requires c).Start ∙ omega (arith, room (goal.at.put_line-requires c).Start))

pub put_end-requires : goal.put_end-requires
put_end-requires c =
    let d = c.args.d.now in
    let f = c.put_line in
    let r = room (goal.at.put_end-requires c).Start in
    half_length d f.new.d (length d - 2) (length d) (f.auto.d ∙ front (goal.at.put_end-requires c).Start) (omega arith) (omega arith) ∙ omega arith

pub returns : goal.returns
unfolding text_of
returns c =
    let d = c.args.d.now in
    let f = c.put_line in
    let g = c.put_end in
    let r = room (goal.at.returns c).Start in
    let p = f.new.d in
    let lq : length g.new.d ≡ 2 = ap length g.ensures in
    halves d p g.new.d (length d - 2) (length d) (f.auto.d ∙ front (goal.at.returns c).Start) (omega arith) refl ∙ rw (f.ensures, g.ensures)
