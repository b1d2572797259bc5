-- `binary_bytes::pack_word` meets its contract. The loop's invariant: the statuses are those that are left and others, and the word is that of the others.
use mathlib.Core.Path.{◌≡◌, refl, sym, ◌∙◌}
use mathlib.Core.Bool.{Bool, false}
use mathlib.Core.List.{List, [], ◌∷◌, ◌++◌, append-nil, append_assoc}
use Prim.Native.Nat.{◌-◌, ◌<◌, ◌≤◌}
use native.Mathlib.Omega.{arith}
use borrow.Author.Rules.{rules}
use lib.ListN.{length, drop, get_or, length-append}
use lib.Seq.{drop-length, drop_at, get_or_at}
use Rattle.binary_bytes.specs.Rows.{packed}
use Rattle.binary_bytes.proofs.PackLaws.{pack-off, pack-on}
use Rattle.binary_bytes.proofs.pack_word.Goals as goal

pub loop-on-init : goal.loop-on-init
unfolding packed
loop-on-init c =
    let all : c.into_iter-on-iterator.result.iter.rest.now ≡ c.args.s.now = search rules in
    rw (all, drop-length) (sym (append-nil c.args.s.now), refl)

-- one status less that is left
module _ (s left more others : List Bool) (b : Bool) (e : left ≡ more ++ (b ∷ [])) (h : s ≡ left ++ others) where
  whole : s ≡ more ++ (b ∷ others)
  whole = h ∙ rw (e, append_assoc)

  after : drop (length more) s ≡ b ∷ others
  after = rw whole (drop_at more (b ∷ others) (length more) refl)

  next : s ≡ more ++ drop (length more) s
  next = rw after whole

  less : length left - 1 ≡ length more
  less = rw (e, length-append) (omega arith)

  some : 0 < length left
  some = rw (e, length-append) (omega arith)

  within : length left ≤ length s
  within = rw (h, length-append) (omega arith)

  here : get_or s (length left - 1) false ≡ b
  here = rw (less, whole) (get_or_at more b others false (length more) refl)

pub loop-on-preserved-then-on : goal.loop-on-preserved-then-on
loop-on-preserved-then-on c =
    let p = c.loop-on in
    let s = c.args.s.now in
    let left = p.on-iterator.iter.rest.now in
    let more = c.next.new.self.iter.rest.now in
    let others = drop (length left) s in
    let b = c.in-Some.on.now in
    let e = c.in-Some.ensures.steps in
    let h = p.invariant.0 in (
      next s left more others b e h,
      rw (← less s left more others b e h)
          (pack-on s (length left) p.word (some s left more others b e h) (within s left more others b e h) c.requires p.invariant.1 (here s left more others b e h ∙ c.if-on.true)),
    )

pub loop-on-preserved : goal.loop-on-preserved
loop-on-preserved c =
    let p = c.loop-on in
    let s = c.args.s.now in
    let left = p.on-iterator.iter.rest.now in
    let more = c.next.new.self.iter.rest.now in
    let others = drop (length left) s in
    let b = c.in-Some.on.now in
    let e = c.in-Some.ensures.steps in
    let h = p.invariant.0 in (
      next s left more others b e h,
      rw (← less s left more others b e h)
          (pack-off s (length left) p.word (some s left more others b e h) (within s left more others b e h) c.requires p.invariant.1 (here s left more others b e h ∙ c.if-on.false)),
    )

pub returns : goal.returns
returns c =
    let z : length c.loop-on.on-iterator.iter.rest.now ≡ 0 = search rules in
    c.loop-on.invariant.1 ∙ rw z
