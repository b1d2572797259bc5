-- Laws of the line of counts.
--     channels-said      A and D are within the limits, and there is a channel
--     channels-le        the same of what the code answers
-- Assumes nothing.
use mathlib.Core.Path.{◌≡◌}
use mathlib.Core.List.{List}
use Prim.Native.Nat.{ℕ, ◌+◌, ◌≤◌}
use native.Mathlib.Omega.{arith}
use borrow.Author.Tests.{eqb-true}
use lib.Dec.{eqb}
use Rattle.std.proofs.Common.{Ok}
use Rattle.ground.specs.Said.{says, answer_of}
use Rattle.ground.proofs.SaidLaws.{must-told, bind-told, answer-told}
use Rattle.text.specs.Fields.{field_count, field_at}
use Rattle.fields.specs.Fields.{read_count_in, read_lettered}
use Rattle.line_fields.specs.Checks.{fault, value}
use Rattle.line_fields.proofs.ValueLaws.{value-ge, lettered-le, value-told}
use Rattle.channel_lines.specs.Channels.{channels_line}

pub channels-said : (l : List ℕ) (v : ℕ × ℕ) → channels_line l ≡ says v → (v.0 ≤ 96) × (v.1 ≤ 256) × (1 ≤ v.0 + v.1)
unfolding channels_line
channels-said l v e =
    let f = must-told (eqb (field_count l) 3) (fault 4 0) _ v e in
    let t = bind-told (value 1 (read_count_in 6 1 352) l) _ v f.1 in
    let a = bind-told (value 2 (read_lettered 65 96) l) _ v t.2 in
    let d = bind-told (value 3 (read_lettered 68 256) l) _ v a.2 in
    let s = must-told (eqb t.0 (a.0 + d.0)) (fault 7 3) _ v d.2 in
    let z = s.1 in
    let q : (a.0, d.0) ≡ v = cc in
    let least = value-ge 6 1 352 (field_at 1 l) t.0 (value-told 1 (read_count_in 6 1 352 (field_at 1 l)) t.0 t.1) in
    rw (← q) (
      lettered-le 65 96 (field_at 2 l) a.0 (value-told 2 (read_lettered 65 96 (field_at 2 l)) a.0 a.1),
      lettered-le 68 256 (field_at 3 l) d.0 (value-told 3 (read_lettered 68 256 (field_at 3 l)) d.0 d.1),
      omega (arith, least, eqb-true t.0 (a.0 + d.0) s.0),
    )

pub channels-le : (l : List ℕ) (v : ℕ × ℕ) → answer_of (channels_line l) ≡ Ok v → (v.0 ≤ 96) × (v.1 ≤ 256)
channels-le l v e = let s = channels-said l v (answer-told (channels_line l) v e) in (s.0, s.1)
