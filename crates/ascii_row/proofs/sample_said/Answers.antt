-- `ascii_row::sample_said` meets its contract: a number that the layout holds is a sample, and of the others the mark of a marked text alone.
use mathlib.Core.Path.{◌≡◌, refl, sym, ap, ◌∙◌}
use mathlib.Core.Logic.{inl, inr}
use mir.Syntax.{w64}
use mir.ValLaws.{to_z-of_z}
use Rattle.model.specs.Samples.{missing, holds, is_mark}
use Rattle.ascii_row.proofs.FieldLaws.{whole-missing, told-sample, no-sample}
use Rattle.ascii_row.proofs.sample_said.Goals as goal
use Rattle.ascii_row.proofs.sample_said.Goals.{After-holds, After-is_mark}

-- the tests of the number, read back as the machine keeps it
held : (c : After-holds) → holds c.args.layout c.args.z ≡ c.holds.result
held c = sym (c.holds.ensures ∙ ap (holds c.args.layout) (to_z-of_z w64 c.args.z c.ranges.z))

mark : (c : After-is_mark) → is_mark c.args.z ≡ c.is_mark.result
mark c = sym (c.is_mark.ensures ∙ ap is_mark (to_z-of_z w64 c.args.z c.ranges.z))

pub returns-then-holds : goal.returns-then-holds
returns-then-holds c = λ f e.
    let z = c.args.z in
    rw (to_z-of_z w64 z c.ranges.z) (sym (told-sample c.args.layout f z (inr (e, held (goal.at.returns-then-holds c).After-holds ∙ c.if-holds.true))))

pub returns-then-not-is_marked : goal.returns-then-not-is_marked
returns-then-not-is_marked c = λ f e.
    let m = sym c.is_marked.ensures ∙ c.if-not-is_marked.true in
    sym (no-sample c.args.layout f c.args.z e (rw m) (held (goal.at.returns-then-not-is_marked c).After-holds ∙ c.if-holds.false))

pub returns-then-is_mark : goal.returns-then-is_mark
returns-then-is_mark c = λ f e.
    let m = sym c.is_marked.ensures ∙ c.if-not-is_marked.false in
    sym (told-sample c.args.layout f missing (inl (refl, whole-missing c.args.layout f c.args.z e ∙ rw (m, mark (goal.at.returns-then-is_mark c).After-is_mark, c.if-is_mark.true))))

pub returns : goal.returns
returns c = λ f e.
    let m = sym c.is_marked.ensures ∙ c.if-not-is_marked.false in
    sym (no-sample c.args.layout f c.args.z e (rw (m, mark (goal.at.returns c).After-is_mark, c.if-is_mark.false)) (held (goal.at.returns c).After-holds ∙ c.if-holds.false))
