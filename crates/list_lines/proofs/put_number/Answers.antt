-- `put_number` meets its contract: a space, and the plain decimal fills the part that is its length.
use mathlib.Core.Path.{◌≡◌, ap, ◌∙◌}
use Prim.Native.Nat.{◌+◌, ◌≤◌}
use native.Mathlib.Omega.{arith}
use lib.IntN.{ℤ}
use lib.ListN.{length}
use mir.Syntax.{w64}
use mir.Val.{to_z, of_z}
use Rattle.words.proofs.MachineLaws.{widened-back}
use Rattle.numerals.specs.Decimals.{plain}
use Rattle.ascii_plain.proofs.LengthLaws.{plain-short}
use Rattle.pieces.proofs.Laws.{put_then, put-part}
use Rattle.list_lines.proofs.put_number.Goals as goal
use Rattle.list_lines.proofs.put_number.Goals.{After-plain_length}

-- the sample, as the machine keeps it, and how long it is
back : (c : After-plain_length) → to_z w64 (of_z w64 c.widened-wide.result) ≡ c.args.z
back c =
    widened-back c.args.z c.widened-wide.result c.ranges.z c.widened-wide.ensures

short : (c : After-plain_length)
    → let p = c.put_all-m in (c.plain_length.result ≡ length (plain c.args.z)) × (c.plain_length.result ≤ 11) × (p.result ≡ c.args.n + 1)
short c =
    let e = c.plain_length.ensures ∙ ap (λ (z : ℤ). length (plain z)) (back c) in
    (e, omega (arith, plain-short c.args.z c.ranges.z.sfits), c.put_all-m.ensures.end)

pub overflow_add-to : goal.overflow_add-to
overflow_add-to c = omega (arith, (short c).1, (short c).2)

pub slice_bounds-put_plain-end : goal.slice_bounds-put_plain-end
slice_bounds-put_plain-end c = omega (arith, (short c).1, (short c).2)

pub returns : goal.returns
returns c =
    let z = c.args.z in
    let p = c.put_all-m in
    let e = short (goal.at.returns c).After-plain_length in
    let y : c.put_plain.new.d ≡ plain z = c.put_plain.ensures ∙ ap plain (back (goal.at.returns c).After-plain_length) in
    let q = put-part p.new.out (plain z) p.result (p.result + c.plain_length.result) (omega arith) (omega arith) in
    record { put = put_then p.ensures (rw y q); upper_bound = omega arith }
