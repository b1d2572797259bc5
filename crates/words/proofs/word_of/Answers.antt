-- `words::word_of` meets its contract. The loop's invariant: v is what the bytes that were read hold.
use mathlib.Core.Path.{◌≡◌, ◌∙◌}
use Prim.Native.Nat.{◌<◌, ◌^◌, ◌-◌, ◌+◌}
use native.Mathlib.Nat.{sub-zero}
use native.Mathlib.Omega.{arith}
use lib.ListN.{length, get_or, drop, length-drop}
use lib.Seq.{drop-length}
use Rattle.std.proofs.lemmas.Iterator.Adapters.{YieldsList-from_rev_slice}
use Rattle.std.proofs.lemmas.Iterator.Consumers.{YieldsList-turn, YieldsList-end}
use Rattle.std.proofs.lemmas.List.{get_or-reverse, get_or_default, length-reverse, length_push}
use Rattle.ground.proofs.Every.{every_drop}
use Rattle.words.specs.Words.{word_of, is_byte}
use Rattle.words.proofs.WordLaws.{all-bytes, word_of-few, word_of-back}
use Rattle.words.proofs.word_of.Goals as goal
use Rattle.words.proofs.word_of.Goals.{In-Some}

-- the byte of a turn
turn : (c : In-Some)
    → let n = length c.loop-b.yielded in let s = c.args.s.now in
    (n < length s) × (c.in-Some.b.now ≡ get_or s (length s - n - 1) 0)
turn c =
    let s = c.args.s.now in
    let n = length c.loop-b.yielded in
    let t = YieldsList-turn (YieldsList-from_rev_slice s cc) c.loop-b.yielded _ c.loop-b.yielded_by _ _ c.in-Some.b c.in-Some.is c.next.ensures.steps in
    let h : n < length s = rw length-reverse at t.0 in
    let e : length s - 1 - n ≡ length s - n - 1 = omega arith in
    (h, t.1 ∙ get_or-reverse s n _ h ∙ rw e (get_or_default s (length s - n - 1) _ 0 (omega arith)))

pub loop-b-init : goal.loop-b-init
unfolding word_of
loop-b-init c = (omega arith, rw (sub-zero, drop-length))

-- at most three bytes are read before a turn
few : (c : In-Some) → c.loop-b.v < 256 ^ 3
few c =
    let s = c.args.s.now in
    let i = length s - length c.loop-b.yielded in
    rw c.loop-b.invariant.1
    (word_of-few (drop i s) 3 (every_drop is_byte i s (all-bytes s c.type_inv.s)) (rw length-drop (omega (arith, (turn c).0))))

pub overflow_mul-v : goal.overflow_mul-v
overflow_mul-v c = omega (arith, few c)

pub overflow_add-v : goal.overflow_add-v
overflow_add-v c =
    let k = (goal.at.overflow_add-v c).In-Some in
    omega (arith, few k, (turn k).1, c.type_inv.s (length c.args.s.now - length c.loop-b.yielded - 1))

pub loop-b-preserved : goal.loop-b-preserved
loop-b-preserved c =
    let k = (goal.at.loop-b-preserved c).In-Some in
    let s = c.args.s.now in
    let n = length c.loop-b.yielded in
    let t = turn k in
    let e : length s - (n + 1) ≡ length s - n - 1 = omega arith in
    rw length_push
    (omega (arith, t.0), rw (e, c.from.ensures, t.1) (word_of-back s (length s - n) c.loop-b.v (omega (arith, t.0)) (omega arith) c.loop-b.invariant.1))

pub returns : goal.returns
returns c =
    let s = c.args.s.now in
    let t = YieldsList-end (YieldsList-from_rev_slice s cc) c.loop-b.yielded _ c.loop-b.yielded_by _ _ c.in-None.is c.next.ensures.steps in
    let z : length s - length c.loop-b.yielded ≡ 0 = omega (arith, t.1, length-reverse s) in
    c.loop-b.invariant.1 ∙ rw z
