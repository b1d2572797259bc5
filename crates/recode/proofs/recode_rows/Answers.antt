-- `recode::recode_rows` meets its contract. The loop's invariant: the slice begins with i rows, and the rest is as it was.
use Rattle.ground.proofs.Parts.{length_part}
use native.Mathlib.Omega.{arith}
use mathlib.Core.Path.{◌≡◌, sym, ◌∙◌}
use Prim.Native.Nat.{◌+◌, ◌*◌, ◌<◌, ◌≤◌}
use lib.ListN.{length}
use native.Mathlib.Nat.{zero-mul}
use mathlib.Core.List.{append-nil}
use lib.Seq.{drop-length}
use Rattle.ground.proofs.Tables.{block-end, cat-turn}
use Rattle.binary_row.specs.Rows.{row_size}
use Rattle.binary_bytes.specs.Rows.{binary_of}
use Rattle.binary_bytes.proofs.RowLaws.{length-row}
use Rattle.binary_file.specs.Files.{binary_row}
use Rattle.binary_file.proofs.Laws.{row-end, row-length, whole}
use Rattle.words.proofs.WordLaws.{all-bytes}
use Rattle.model.specs.Layouts.{in_kind}
use Rattle.model.proofs.LayoutLaws.{sized-in}
use Rattle.recode.specs.Inner.{misfit_in, recoded_file}
use Rattle.recode.proofs.RowLaws.{file-there}
use Rattle.recode.proofs.recode_rows.Goals as goal
use Rattle.recode.proofs.recode_rows.Goals.{After-row_size-fresh, In-loop-i, Start}

pub row_size-fresh-requires : goal.row_size-fresh-requires
row_size-fresh-requires c =
    rw c.in_kind.ensures (sized-in c.args.new c.args.layout c.requires.sized.0)

pub loop-i-init : goal.loop-i-init
loop-i-init c = rw zero-mul

-- the file's length, and the new row's size
long : (c : Start) → length c.args.«data».now ≡ c.args.layout.rows * row_size c.args.layout
long c = (whole c.args.layout c.args.«data».now c.requires.sized.1).0

size : (c : After-row_size-fresh)
    → c.row_size-fresh.result ≡ row_size (in_kind c.args.new c.args.layout)
size c = c.row_size-fresh.ensures ∙ rw c.in_kind.ensures

-- row i lies within both files
room : (c : In-loop-i)
    → let n = c.row_size-size.result in c.loop-i.i * n + n ≤ length c.args.«data».now
room c =
    rw c.row_size-size.ensures (row-end c.args.layout c.args.«data».now c.loop-i.i (whole c.args.layout c.args.«data».now c.requires.sized.1).0 (omega arith))

new-room : (c : In-loop-i) → c.row_size-fresh.result ≡ row_size (in_kind c.args.new c.args.layout)
    → let n = c.row_size-fresh.result in c.loop-i.i * n + n ≤ length c.loop-i.d
new-room c size =
    let p = c.loop-i in
    let e : length p.d ≡ length c.args.d.now = omega arith in
    rw (e, c.requires.d_len.0, ← size) (block-end p.i c.args.layout.rows c.row_size-fresh.result (omega arith))

pub overflow_mul-from : goal.overflow_mul-from
overflow_mul-from c = omega (arith, room (goal.at.overflow_mul-from c).In-loop-i)

pub overflow_add-to : goal.overflow_add-to
overflow_add-to c = omega (arith, room (goal.at.overflow_add-to c).In-loop-i)

pub overflow_mul-at : goal.overflow_mul-at
overflow_mul-at c = omega (arith, new-room (goal.at.overflow_mul-at c).In-loop-i (size (goal.at.overflow_mul-at c).After-row_size-fresh))

pub overflow_add-end : goal.overflow_add-end
overflow_add-end c = omega (arith, new-room (goal.at.overflow_add-end c).In-loop-i (size (goal.at.overflow_add-end c).After-row_size-fresh))

pub slice_bounds-recode_row-end : goal.slice_bounds-recode_row-end
slice_bounds-recode_row-end c = room (goal.at.slice_bounds-recode_row-end c).In-loop-i

pub slice_bounds-recode_row-end-in-loop-i : goal.slice_bounds-recode_row-end-in-loop-i
slice_bounds-recode_row-end-in-loop-i c = new-room (goal.at.slice_bounds-recode_row-end-in-loop-i c).In-loop-i (size (goal.at.slice_bounds-recode_row-end-in-loop-i c).After-row_size-fresh)

pub recode_row-requires : goal.recode_row-requires
unfolding misfit_in binary_row
recode_row-requires c =
    let l = c.args.layout in
    let s = c.args.«data».now in
    let known = all-bytes s c.shared_slice_known-1.given in
    let p = c.loop-i in
    let i = p.i in
    let h : i < l.rows = omega arith in
    let old = c.row_size-size.ensures in
    let at = i * c.row_size-fresh.result in record {
      sized = (
        c.requires.sized.0,
        rw old (row-length l s i (long (goal.at.recode_row-requires c).Start) h),
        rw old (file-there l s c.requires.sized.1 c.requires.sized.0 known i h),
        rw old (c.requires.sized.2 i h),
      );
      d_len = (length_part at (at + c.row_size-fresh.result) p.d (new-room (goal.at.recode_row-requires c).In-loop-i (size (goal.at.recode_row-requires c).After-row_size-fresh)) ∙ omega (arith, size (goal.at.recode_row-requires c).After-row_size-fresh), c.requires.d_len.1);
    }

pub loop-i-preserved : goal.loop-i-preserved
unfolding binary_row
loop-i-preserved c =
    let l = c.args.layout in
    let s = c.args.«data».now in
    let m = c.args.new in
    let w = c.row_size-fresh.result in
    let e = size (goal.at.loop-i-preserved c).After-row_size-fresh in
    let p = c.loop-i in
    let put = c.recode_row in
    let ys = put.new.d in
    let y : ys ≡ binary_of (in_kind m l) (p.i + 1) (binary_row l p.i s) = put.ensures ∙ rw c.row_size-size.ensures in
    let t =
    cat-turn (λ j. binary_of (in_kind m l) (j + 1) (binary_row l j s)) w (λ j. length-row (in_kind m l) (j + 1) (binary_row l j s) ∙ sym e)
    c.args.d.now p.d ys p.i (omega arith) p.invariant (new-room (goal.at.loop-i-preserved c).In-loop-i (size (goal.at.loop-i-preserved c).After-row_size-fresh)) y in
    t.1

pub returns : goal.returns
unfolding recoded_file
returns c =
    let e : c.loop-i.i ≡ c.args.layout.rows = omega arith in
    let n : length c.args.d.now ≡ c.args.layout.rows * c.row_size-fresh.result = c.requires.d_len.0 ∙ rw (size (goal.at.returns c).After-row_size-fresh) in
    c.loop-i.invariant ∙ rw (e, ← n, drop-length, append-nil)
