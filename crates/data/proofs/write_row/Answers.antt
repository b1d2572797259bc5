-- `write_row` meets its contract: what the answer says is written at the front, or nothing is.
use mathlib.Core.Path.{◌≡◌, sym, ap, ◌∙◌}
use mathlib.Core.List.{List}
use Prim.Native.Nat.{ℕ, ◌≤◌}
use native.Mathlib.Omega.{arith}
use lib.ListN.{length, take}
use lib.Seq.{length-take-le}
use Rattle.ground.specs.Said.{says}
use Rattle.ground.proofs.SaidLaws.{filled-told}
use Rattle.model.proofs.AnswerLaws.{written-told}
use Rattle.data.specs.Files.{misfit_of, write_said}
use Rattle.data.proofs.Laws.{Writable, writable}
use Rattle.row_bytes.proofs.RowLaws.{length-bytes}
use Rattle.data.proofs.write_row.Goals as goal
use Rattle.data.proofs.write_row.Goals.{In_ok-size}

-- what is said: bytes, as many as the answer tells
told : (c : In_ok-size) → let x = write_said c.args.layout c.args.n c.args.row (length c.args.out.now) in
    (new : List ℕ) × (x ≡ says new) × (c.in_ok-size.size ≡ length new) × (Writable c.args.layout c.args.n c.args.row (length c.args.out.now) new)
told c =
    let x = write_said c.args.layout c.args.n c.args.row (length c.args.out.now) in
    let t = written-told x c.in_ok-size.size (sym c.may_write.ensures ∙ c.in_ok-size.was) in
    (t.0, t.1, t.2, writable c.args.layout c.args.n c.args.row (length c.args.out.now) t.0 t.1)

within : (c : In_ok-size) → c.in_ok-size.size ≤ length c.args.out.now
within c = let t = told c in omega (arith, t.2, t.3.within)

-- as many bytes are lent
front : (c : In_ok-size) → length (take c.in_ok-size.size c.args.out.now) ≡ c.in_ok-size.size
front c = length-take-le c.in_ok-size.size c.args.out.now (within c)

pub slice_bounds-put_row-end : goal.slice_bounds-put_row-end
slice_bounds-put_row-end c = omega (arith, within (goal.at.slice_bounds-put_row-end c).In_ok-size)

pub slice_bounds-put_row-end-2 : goal.slice_bounds-put_row-end-2
slice_bounds-put_row-end-2 c = sym (length-take-le _ _ (omega (arith, within (goal.at.slice_bounds-put_row-end-2 c).In_ok-size)))

pub put_row-requires : goal.put_row-requires
unfolding misfit_of
put_row-requires c =
    let t = told (goal.at.put_row-requires c).In_ok-size in
    (t.3.fit, front (goal.at.put_row-requires c).In_ok-size ∙ t.2 ∙ ap length t.3.bytes ∙ sym (length-bytes c.args.layout c.args.n c.args.row), t.3.all)

pub returns : goal.returns
returns c =
    let t = told (goal.at.returns c).In_ok-size in
    record { value = sym c.in_ok-size.was ∙ c.may_write.ensures; out_after = filled-told _ t.0 _ _ _ t.1 (c.put_row.ensures ∙ sym t.3.bytes) t.2 }
