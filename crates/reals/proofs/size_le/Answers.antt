-- `size_le` meets its contract: by the place of the first digit, and then by the digits, 13 of each.
use mathlib.Core.Path.{sym}
use Prim.Native.Nat.{◌≤◌}
use native.Mathlib.Omega.{arith}
use lib.ListN.{length}
use Rattle.numerals.specs.Decimals.{decimal}
use Rattle.numerals.proofs.PlainLaws.{length-decimal-le}
use Rattle.reals.proofs.SizeLaws.{zero-le, not-le-zero, apart, level, within-places}
use Rattle.reals.proofs.size_le.Goals as goal
use Rattle.reals.proofs.size_le.Goals.{Start}

-- m and n have at most 13 digits
short-m : (c : Start) → length (decimal c.args.m) ≤ 13
short-m c = length-decimal-le 12 _ c.requires.m_bound.0

short_n : (c : Start) → length (decimal c.args.n) ≤ 13
short_n c = length-decimal-le 12 _ c.requires.n_bound.0

pub returns-then-m-eq0 : goal.returns-then-m-eq0
returns-then-m-eq0 c = sym (zero-le _ _ _ _ c.if-m-eq0.true)

pub returns-then-n-eq0 : goal.returns-then-n-eq0
returns-then-n-eq0 c = sym (not-le-zero _ _ _ _ (omega arith) c.if-n-eq0.true)

pub overflow_add-p : goal.overflow_add-p
overflow_add-p c = omega (arith, short-m (goal.at.overflow_add-p c).Start)

pub overflow_add-q : goal.overflow_add-q
overflow_add-q c = omega (arith, short_n (goal.at.overflow_add-q c).Start)

pub returns-then-p-q : goal.returns-then-p-q
returns-then-p-q c =
    let p = c.decimal_length-i.ensures in
    let q = c.decimal_length-j.ensures in
    let d = c.if-p-q.true in
    rw (p, q) (sym (apart _ _ _ _ (omega arith) (omega arith) (rw (p, q) at d)))

pub overflow_sub-i : goal.overflow_sub-i
overflow_sub-i c = omega (arith, short-m (goal.at.overflow_sub-i c).Start)

pub to_places-requires : goal.to_places-requires
to_places-requires c = rw c.decimal_length-i.ensures (within-places 13 _ (short-m (goal.at.to_places-requires c).Start))

pub overflow_sub-j : goal.overflow_sub-j
overflow_sub-j c = omega (arith, short_n (goal.at.overflow_sub-j c).Start)

pub to_places-requires-2 : goal.to_places-requires-2
to_places-requires-2 c = rw c.decimal_length-j.ensures (within-places 13 _ (short_n (goal.at.to_places-requires-2 c).Start))

pub returns : goal.returns
returns c =
    let p = c.decimal_length-i.ensures in
    let q = c.decimal_length-j.ensures in
    let e = c.if-p-q.false in
    rw (c.to_places.ensures, c.to_places-2.ensures, p, q) (sym (level 13 _ _ _ _ (short-m (goal.at.returns c).Start) (short_n (goal.at.returns c).Start) (rw (p, q) at e)))
