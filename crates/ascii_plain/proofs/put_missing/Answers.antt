-- `ascii_plain::put_missing` meets its contract: where there is no mark the slice is empty.
use mathlib.Core.Path.{◌≡◌, sym, ap, ◌∙◌}
use mathlib.Core.List.{[]}
use lib.IntN.{pos}
use lib.ListN.{length}
use native.Mathlib.Omega.{arith}
use Rattle.ground.proofs.Walk.{done}
use Rattle.numerals.specs.Decimals.{plain}
use Rattle.ascii_plain.specs.Rows.{missing_chars}
use Rattle.ascii_plain.proofs.LengthLaws.{missing-none, missing-mark}
use Rattle.ascii_plain.proofs.put_missing.Goals as goal
use Rattle.ascii_plain.proofs.put_missing.Goals.{Else-is_marked, Then-is_marked}

-- the characters, by the test
mark : (c : Then-is_marked) → missing_chars c.args.layout ≡ plain (pos 99999)
mark c = missing-mark c.args.layout (sym c.is_marked.ensures ∙ c.if-is_marked.true)

none : (c : Else-is_marked) → missing_chars c.args.layout ≡ []
none c = missing-none c.args.layout (sym c.is_marked.ensures ∙ c.if-is_marked.false)

pub put_plain-requires : goal.put_plain-requires
put_plain-requires c = c.requires ∙ rw (mark (goal.at.put_plain-requires c).Then-is_marked)

pub returns-then-is_marked : goal.returns-then-is_marked
returns-then-is_marked c = c.put_plain.ensures ∙ sym (mark (goal.at.returns-then-is_marked c).Then-is_marked)

pub returns-else-is_marked : goal.returns-else-is_marked
returns-else-is_marked c =
    let d = c.args.d.now in
    let e : length d ≡ 0 = c.requires ∙ ap length (none c) in
    rw (none c) (done d 0 (omega arith))
