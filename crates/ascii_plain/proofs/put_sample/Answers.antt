-- `ascii_plain::put_sample` meets its contract: the comma is the first character, and the sample, or what stands for a missing one, fills the rest.
use mathlib.Core.Path.{◌≡◌, sym, ap, ◌∙◌}
use native.Mathlib.Omega.{arith}
use lib.ListN.{length-set, length-drop}
use mir.Syntax.{w64}
use mir.Val.{to_z, of_z}
use Rattle.ground.proofs.Walk.{rest}
use Rattle.ground.proofs.Parts.{put_first}
use Rattle.words.proofs.MachineLaws.{widened-back}
use Rattle.numerals.specs.Decimals.{plain}
use Rattle.ascii_plain.specs.Rows.{missing_chars, sample_chars}
use Rattle.ascii_plain.proofs.LengthLaws.{missing-tested, chars-missing, chars-there}
use Rattle.ascii_plain.proofs.put_sample.Goals as goal
use Rattle.ascii_plain.proofs.put_sample.Goals.{After-is_missing, After-slice_known-2-1, After-slice_known-then-is_missing-1, After-widened, Else-is_missing, Start, Then-is_missing}

-- the characters, by the test
none : (c : Then-is_missing) → sample_chars c.args.layout c.args.z ≡ missing_chars c.args.layout
none c = chars-missing c.args.layout c.args.z (missing-tested c.args.z c.is_missing.result c.ranges.z c.is_missing.ensures ∙ c.if-is_missing.true)

there : (c : Else-is_missing) → sample_chars c.args.layout c.args.z ≡ plain c.args.z
there c = chars-there c.args.layout c.args.z (missing-tested c.args.z c.is_missing.result c.ranges.z c.is_missing.ensures ∙ c.if-is_missing.false)

pub slice_bounds-put_missing-count : goal.slice_bounds-put_missing-count
slice_bounds-put_missing-count c = simp length-set (omega arith)

pub slice_bounds-put_missing-start : goal.slice_bounds-put_missing-start
slice_bounds-put_missing-start c = simp length-set (omega arith)

pub put_missing-requires : goal.put_missing-requires
put_missing-requires c = rw (rest, length-drop, length-set, ← none (goal.at.put_missing-requires c).Then-is_missing) (omega (arith, c.requires))

filled-missing : (c : After-slice_known-then-is_missing-1) → sample_chars c.args.layout c.args.z ≡ missing_chars c.args.layout
    → c.put_missing.new.d ≡ sample_chars c.args.layout c.args.z
filled-missing c none = c.put_missing.ensures ∙ sym none

pub shape_of-d-then-is_missing : goal.shape_of-d-then-is_missing
shape_of-d-then-is_missing c =
    rw (put_first c.args.d.now c.put_missing.new.d 44 (omega (arith, c.requires)), filled-missing c (none (goal.at.shape_of-d-then-is_missing c).Then-is_missing)) (omega (arith, c.requires))

pub returns-then-is_missing : goal.returns-then-is_missing
returns-then-is_missing c =
    put_first c.args.d.now c.put_missing.new.d 44 (omega (arith, c.requires)) ∙ rw (filled-missing c (none (goal.at.returns-then-is_missing c).Then-is_missing))

pub slice_bounds-put_plain-count : goal.slice_bounds-put_plain-count
slice_bounds-put_plain-count c = simp length-set (omega arith)

pub slice_bounds-put_plain-start : goal.slice_bounds-put_plain-start
slice_bounds-put_plain-start c = simp length-set (omega arith)

-- the sample, as the machine keeps it
back : (c : After-widened) → to_z w64 (of_z w64 c.widened.result) ≡ c.args.z
back c = widened-back c.args.z c.widened.result c.ranges.z c.widened.ensures

pub put_plain-requires : goal.put_plain-requires
put_plain-requires c = rw (rest, length-drop, length-set, back c, ← there (goal.at.put_plain-requires c).Else-is_missing) (omega (arith, c.requires))

filled : (c : After-slice_known-2-1) → to_z w64 (of_z w64 c.widened.result) ≡ c.args.z → sample_chars c.args.layout c.args.z ≡ plain c.args.z
    → c.put_plain.new.d ≡ sample_chars c.args.layout c.args.z
filled c back there = c.put_plain.ensures ∙ ap plain back ∙ sym there

pub shape_of-d : goal.shape_of-d
shape_of-d c =
    rw (put_first c.args.d.now c.put_plain.new.d 44 (omega (arith, c.requires)), filled c (back (goal.at.shape_of-d c).After-widened) (there (goal.at.shape_of-d c).Else-is_missing)) (omega (arith, c.requires))

pub returns : goal.returns
returns c =
    put_first c.args.d.now c.put_plain.new.d 44 (omega (arith, c.requires)) ∙ rw (filled c (back (goal.at.returns c).After-widened) (there (goal.at.returns c).Else-is_missing))
