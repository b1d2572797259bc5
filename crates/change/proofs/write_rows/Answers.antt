-- `change::write_rows` meets its contract. The loop's invariant: t is what follows i rows, and the slice begins with the bytes of i rows, which end at from; the rest is as it was.
use Rattle.change_length.proofs.LengthLaws.{rows_next, rows-within, length-rows}
use Rattle.model.proofs.LayoutLaws.{sized-in}
use Rattle.change_length.specs.Inner.{rows_length, rows_bytes}
use Rattle.rows.proofs.WalkLaws.{rest-none, rest-next, row-here, here-within, has-row}
use Rattle.rows.specs.Inner.{HasRow}
use Rattle.row_bytes.specs.Rows.{bytes_of}
use Rattle.row_bytes.specs.Inner.{length_of}
use Rattle.row_bytes.proofs.RowLaws.{length-bytes}
use Rattle.data.specs.Files.{misfit_of, row_at}
use Rattle.model.specs.declared.Layout.{Layout}
use Rattle.ground.proofs.Walk.{rest}
use Rattle.ground.proofs.Parts.{put_next, length_part}
use lib.Seq.{drop-length}
use lib.ListN.{length, drop, length-drop}
use native.Mathlib.Omega.{arith}
use native.Mathlib.Numerals.{add-one}
use Prim.Native.Nat.{ℕ, ◌≤◌, ◌+◌, ◌-◌}
use mathlib.Core.List.{List, ◌++◌, append-nil}
use mathlib.Core.Path.{◌≡◌, refl, sym, ap, ◌∙◌}
use Rattle.change.proofs.write_rows.Goals as goal
use Rattle.change.proofs.write_rows.Goals.{After-row_length, After-taken_here-taken, In-loop-i}

pub loop-i-init : goal.loop-i-init
unfolding rows_length
loop-i-init c =
    (omega arith, sym (rest-none c.args.layout c.args.«data».now), refl, refl)

-- a row is left
left : (c : In-loop-i) → HasRow c.args.layout c.loop-i.t.now
left c =
    let p = c.loop-i in
    rw p.invariant.1 (has-row c.args.layout c.args.«data».now c.requires.sized.1 p.i c.loop-i-test.true)

pub row_here-row-requires : goal.row_here-row-requires
row_here-row-requires c = (c.requires.sized.0, λ other. omega (arith, left (goal.at.row_here-row-requires c).In-loop-i other, c.loop-i.invariant.0))

pub row_length-requires : goal.row_length-requires
row_length-requires c =
    rw c.in_kind-new.ensures (sized-in c.args.kind c.args.layout c.requires.sized.0)

-- the row is the file's, takes its length, and lies within the slice
row : (c : After-row_length)
    → c.row_here-row.result ≡ row_at c.args.layout c.args.«data».now c.loop-i.i
row c =
    let p = c.loop-i in
    rw (c.row_here-row.ensures, row-here c.args.layout c.args.«data».now p.i, ← p.invariant.1)

long : (c : After-row_length)
    → let i = c.loop-i.i in
    c.row_length.result ≡ length_of c.in_kind-new.result (i + 1) (row_at c.args.layout c.args.«data».now i)
long c = c.row_length.ensures ∙ rw (row c)

room : (c : After-row_length) → c.loop-i.from + c.row_length.result ≤ length c.loop-i.d
room c =
    let p = c.loop-i in
    let new = c.in_kind-new in
    let n = new.result in
    let r = row_at c.args.layout c.args.«data».now in
    let whole : length c.args.d.now ≡ rows_length n r c.args.layout.rows = c.requires.d_len.0 ∙ rw new.ensures in
    omega (arith, long c, whole, p.invariant.2, rows-within n r c.args.layout.rows p.i c.loop-i-test.true)

pub overflow_add-to : goal.overflow_add-to
overflow_add-to c = omega (arith, room (goal.at.overflow_add-to c).After-row_length)

pub slice_bounds-put_row-end : goal.slice_bounds-put_row-end
slice_bounds-put_row-end c = room (goal.at.slice_bounds-put_row-end c).After-row_length

pub put_row-requires : goal.put_row-requires
unfolding misfit_of
put_row-requires c =
    let p = c.loop-i in
    let new = c.in_kind-new.ensures in
    let to = p.from + c.row_length.result in
    let lay : (to - p.from) ≡ c.row_length.result = omega arith in (
      rw new (sized-in c.args.kind c.args.layout c.requires.sized.0),
      length_part p.from to p.d (room (goal.at.put_row-requires c).After-row_length) ∙ lay ∙ c.row_length.ensures,
      rw (row (goal.at.put_row-requires c).After-row_length, new) (c.requires.d_len.1 p.i c.loop-i-test.true),
    )

pub taken_here-taken-requires : goal.taken_here-taken-requires
taken_here-taken-requires c = c.requires.sized.0

pub slice_bounds-t-count : goal.slice_bounds-t-count
slice_bounds-t-count c =
    omega (arith, c.taken_here-taken.ensures, here-within c.args.layout c.loop-i.t.now (left (goal.at.slice_bounds-t-count c).In-loop-i))

pub slice_bounds-t-start : goal.slice_bounds-t-start
slice_bounds-t-start c = slice_bounds-t-count (goal.at.slice_bounds-t-start c).After-taken_here-taken

pub loop-i-preserved : goal.loop-i-preserved
loop-i-preserved c =
    let l = c.args.layout in
    let f = c.args.«data».now in
    let n = c.in_kind-new.result in
    let r = row_at l f in
    let p = c.loop-i in
    let to = p.from + c.row_length.result in
    let ys = c.put_row.new.d in
    let y : ys ≡ bytes_of n (p.i + 1) (r p.i) = c.put_row.ensures ∙ rw (row (goal.at.loop-i-preserved c).After-row_length) in
    let b : length ys ≡ c.row_length.result = ap length y ∙ sym (length-bytes n (p.i + 1) (r p.i)) ∙ sym (long (goal.at.loop-i-preserved c).After-row_length) in
    let next = put_next c.args.d.now (rows_bytes n r p.i) ys p.from to (length-rows n r p.i ∙ sym p.invariant.2) (omega arith) in
    let more : rows_bytes n r p.i ++ ys ≡ rows_bytes n r (p.i + 1)
    = ap (λ (x : List ℕ). rows_bytes n r p.i ++ x) y ∙ ap (rows_bytes n r) (sym (add-one p.i)) in (
      rw (rest, length-drop) (omega arith),
      rw (rest, rest-next l f p.i, ← p.invariant.1, c.taken_here-taken.ensures),
      rw (rows_next n r p.i, ← p.invariant.2, ← long (goal.at.loop-i-preserved c).After-row_length),
      rw p.invariant.3 (next ∙ ap (λ (x : List ℕ). x ++ drop to c.args.d.now) more),
    )

pub returns : goal.returns
returns c =
    let n = c.in_kind-new.result in
    let r = row_at c.args.layout c.args.«data».now in
    let e : c.loop-i.i ≡ c.args.layout.rows = omega (arith, c.loop-i-test.false) in
    let long : length c.args.d.now ≡ c.loop-i.from
    = c.requires.d_len.0 ∙ ap (λ (m : Layout). rows_length m r c.args.layout.rows) (sym c.in_kind-new.ensures) ∙ ap (rows_length n r) (sym e) ∙ sym c.loop-i.invariant.2 in
    c.loop-i.invariant.3
    ∙ rw (← long, drop-length, append-nil) (ap (rows_bytes n r) e ∙ ap (λ (m : Layout). rows_bytes m r c.args.layout.rows) c.in_kind-new.ensures)
