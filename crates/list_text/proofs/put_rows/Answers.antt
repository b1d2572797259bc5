-- `put_rows` meets its contract. The loop's invariant: the lines of the rows before row i are put, and row i, which is fine as are all that follow, begins at `at`; so far there are at most
-- 16 characters for each byte that was passed.
use mathlib.Core.Path.{◌≡◌, sym, ap, ◌∙◌}
use Prim.Native.Nat.{ℕ, ◌+◌, ◌-◌, ◌*◌, ◌≤◌, ◌<◌}
use native.Mathlib.Omega.{arith}
use lib.ListN.{length, take, drop}
use Rattle.ground.proofs.Walk.{rest}
use Rattle.data.specs.Files.{row_at}
use Rattle.rows.specs.Inner.{taken_here, row_here, HasRow}
use Rattle.rows.proofs.WalkLaws.{row-here}
use Rattle.list_lines.specs.Inner.{line_most}
use Rattle.list_text.specs.Listing.{rows_text}
use Rattle.pieces.specs.Inner.{Put}
use Rattle.pieces.proofs.Laws.{put-none, put_then, put_as}
use Rattle.list_text.proofs.RowLaws.{rows_next, Walked, walked_start, walked_row, walked_next}
use Rattle.list_text.proofs.put_rows.Goals as goal
use Rattle.list_text.proofs.put_rows.Goals.{After-put_row_here-to, After-taken_here-at, In-loop-i}

pub loop-i-init : goal.loop-i-init
unfolding rows_text
loop-i-init c = (omega arith, walked_start c.args.layout c.args.dat.now c.requires.1, put-none c.args.out.now c.args.n)

-- row i has its line, and then comes the next
on : (c : In-loop-i)
    → let p = c.loop-i in let k = taken_here c.args.layout (drop p.at c.args.dat.now) in
    (HasRow c.args.layout (drop p.at c.args.dat.now)) × (line_most c.args.layout ≤ 16 * k) × (Walked c.args.layout c.args.dat.now p.i (p.at + k))
on c =
    let p = c.loop-i in
    let l = c.args.layout in
    let s = c.args.dat.now in
    let h : p.i - 1 < l.rows = omega arith in
    let e : p.i - 1 + 1 ≡ p.i = omega arith in
    let w = walked_next l s c.requires.1 (p.i - 1) p.at p.invariant.1 h in
    (walked_row l s c.requires.1 (p.i - 1) p.at p.invariant.1 h, w.0, rw e at w.1)

pub put_row_here-to-requires : goal.put_row_here-to-requires
put_row_here-to-requires c =
    let w = on (goal.at.put_row_here-to-requires c).In-loop-i in
    (c.requires.0, rw rest w.0, omega (arith, w.1, w.2.within))

-- how many bytes the row takes
takes : (c : After-taken_here-at)
    → c.taken_here-at.result ≡ taken_here c.args.layout (drop c.loop-i.at c.args.dat.now)
takes c = c.taken_here-at.ensures ∙ rw rest

-- the line of row i is put too
turn : (c : After-put_row_here-to)
    → Put c.args.out.now c.args.n (rows_text c.args.layout c.args.dat.now c.loop-i.i) c.put_row_here-to.new.out c.put_row_here-to.result
turn c =
    let p = c.loop-i in
    let l = c.args.layout in
    let s = c.args.dat.now in
    let e : p.i - 1 + 1 ≡ p.i = omega arith in
    let t = take (length s - p.at) (drop p.at s) in
    let r : row_here l t ≡ row_at l s (p.i - 1) = rw (rest, p.invariant.1.place) (sym (row-here l s (p.i - 1))) in
    put_as (put_then p.invariant.2 c.put_row_here-to.ensures.put) (rw r (rw e at (rows_next l s (p.i - 1))))

pub overflow_add-at : goal.overflow_add-at
overflow_add-at c = let w = on (goal.at.overflow_add-at c).In-loop-i in omega (arith, w.2.within, takes (goal.at.overflow_add-at c).After-taken_here-at)

pub loop-i-preserved : goal.loop-i-preserved
loop-i-preserved c =
    let w = on (goal.at.loop-i-preserved c).In-loop-i in
    let q = c.put_row_here-to in
    let k = takes (goal.at.loop-i-preserved c).After-taken_here-at in
    let e : c.loop-i.i + 1 - 1 ≡ c.loop-i.i = omega arith in (
      omega (arith, q.ensures.upper_bound, w.1, k),
      rw (e, k) w.2,
      rw e (turn (goal.at.loop-i-preserved c).After-put_row_here-to),
    )

pub returns : goal.returns
returns c = absurd (omega arith)

pub returns-2 : goal.returns-2
returns-2 c =
    let e : c.loop-i.i ≡ c.args.layout.rows = omega arith in
    put_as (turn (goal.at.returns-2 c).After-put_row_here-to) (ap (λ (k : ℕ). rows_text c.args.layout c.args.dat.now k) e)
