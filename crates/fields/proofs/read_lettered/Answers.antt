-- `read_lettered` meets its contract.
use mathlib.Core.Path.{sym, ◌∙◌}
use native.Mathlib.Omega.{arith}
use Prim.Native.Nat.{◌≤◌}
use lib.ListN.{length}
use Rattle.numerals.proofs.CountLaws.{length-bounds}
use Rattle.fields.proofs.read_lettered.Goals as goal
use Rattle.fields.proofs.read_lettered.Goals.{Else-not-length_in}

-- the field has 2 to 7 characters
long : (c : Else-not-length_in) → (2 ≤ length c.args.field.now) × (length c.args.field.now ≤ 7)
long c = length-bounds 2 7 c.args.field.now (sym c.length_in.ensures ∙ c.if-not-length_in.false)

pub overflow_sub-n : goal.overflow_sub-n
overflow_sub-n c = omega (arith, long c)

pub bounds-field-n : goal.bounds-field-n
bounds-field-n c = omega (arith, long (goal.at.bounds-field-n c).Else-not-length_in)
