-- `ascii_walk::sample_end` meets its contract: a number that was read is a sample where every layout, or this one, holds it, and a missing one where it is the mark; where none was read the part is empty.
use native.Mathlib.Omega.{arith}
use mathlib.Core.Path.{◌≡◌, refl, sym, ap, ◌∙◌}
use mathlib.Core.Bool.{true, ◌&&◌}
use Prim.Native.Nat.{◌<◌}
use borrow.Author.Rules.{rules}
use lib.IntN.{nat_abs}
use mir.Val.{to_z, of_z}
use mir.Syntax.{w64}
use mathlib.Core.Logic.{inl, inr}
use Rattle.std.proofs.lemmas.Option.{IfSome_then}
use Rattle.model.specs.Samples.{missing, holds, marked, is_mark}
use Rattle.model.proofs.SampleLaws.{short-holds}
use Rattle.ascii_row.proofs.FieldLaws.{whole-missing}
use Rattle.ascii_walk.specs.Inner.{SampleThere}
use Rattle.ascii_walk.proofs.WalkLaws.{empty-there, number-there}
use Rattle.ascii_walk.proofs.sample_end.Goals as goal

pub returns-in_default : goal.returns-in_default
returns-in_default c =
    IfSome_then _ c.empty_end.ensures
    (λ end e. empty-there c.args.layout c.args.s.now c.args.at end e.2 c.if-s-at-ne44.false e.0 (omega (arith, e.0, e.1)))

pub returns-then-is_short : goal.returns-then-is_short
returns-then-is_short c =
    let z = c.in-Some.sample.value in
    let t = c.in-Some.ensures in
    let kept : to_z w64 (of_z w64 z) ≡ z = search rules in
    let small : nat_abs z < 32768 = rw kept at (c.is_short.ensures c.if-is_short.true) in
    number-there c.args.layout c.args.s.now c.args.at _ _ _ c.if-s-at-ne44.false t (inr (t.reads, short-holds c.args.layout z small))

pub returns-then-not-holds : goal.returns-then-not-holds
returns-then-not-holds c =
    let z = c.in-Some.sample.value in
    let t = c.in-Some.ensures in
    let kept : to_z w64 (of_z w64 z) ≡ z = search rules in
    IfSome_then _ {Q = SampleThere c.args.layout c.args.s.now c.args.at} c.mark_end.ensures
    (λ end (e : (end ≡ c.in-Some.sample.end) × (marked c.args.layout && is_mark (to_z w64 (of_z w64 z)) ≡ true)).
    let m : marked c.args.layout && is_mark z ≡ true = rw kept at e.1 in
    rw e.0 (number-there c.args.layout c.args.s.now c.args.at _ z missing c.if-s-at-ne44.false t (inl (refl, whole-missing c.args.layout _ z t.reads ∙ m))))

pub returns : goal.returns
returns c =
    let z = c.in-Some.sample.value in
    let t = c.in-Some.ensures in
    let kept : to_z w64 (of_z w64 z) ≡ z = search rules in
    let tested : holds c.args.layout z ≡ c.holds.result = sym (c.holds.ensures ∙ ap (holds c.args.layout) kept) in
    number-there c.args.layout c.args.s.now c.args.at _ _ _ c.if-s-at-ne44.false t (inr (t.reads, tested ∙ c.if-not-holds.false))
