-- Laws of the rows that the exported calls show and write.
--     shown-sized                   a row is shown of a layout within the sizes alone
--     written-few                   a row that is written is short
-- Assumes nothing.
use mathlib.Core.Path.{◌≡◌, sym, ap, ◌∙◌}
use mathlib.Core.List.{List}
use Prim.Native.Nat.{ℕ, ◌<◌, ◌≤◌, ◌^◌}
use native.Mathlib.Omega.{arith}
use lib.ListN.{length}
use Rattle.ground.proofs.Cases.{on_test}
use Rattle.std.proofs.Common.{Err, Ok, Result}
use Rattle.model.specs.declared.Refusal.{Refusal}
use Rattle.model.specs.declared.Layout.{Layout}
use Rattle.model.specs.declared.Row.{Row}
use Rattle.model.specs.Refusals.{written_of, FewBytes}
use Rattle.model.specs.Layouts.{is_sized, Sized}
use Rattle.model.proofs.AnswerLaws.{written-told}
use Rattle.model.proofs.LayoutLaws.{sized}
use Rattle.model.proofs.FitLaws.{misfit-all}
use Rattle.binary_row.specs.Rows.{row_size}
use Rattle.binary_row.proofs.SizeLaws.{size-le}
use Rattle.ascii_plain.specs.Inner.{text_length}
use Rattle.ascii_plain.proofs.LengthLaws.{text-line, line-most}
use Rattle.row_bytes.specs.Inner.{length_of}
use Rattle.row_bytes.proofs.KindLaws.{text-kind, binary-kind, by-kind}
use Rattle.row_bytes.proofs.RowLaws.{length-bytes}
use Rattle.data.specs.Files.{show_row, misfit_of, write_said}
use Rattle.data.proofs.Laws.{writable}

pub shown-sized : (l : Layout) (s : List ℕ) (n : ℕ) (r : Row) → show_row l s n ≡ Ok r → Sized l
unfolding show_row
shown-sized l s n r e = sized l (on_test (is_sized l) (λ t. t) (λ t. let q = rw t at e in cc))

-- a row of text is short where its samples fit and its time is one of 32 bits
text-short : (l : Layout) (n : ℕ) (r : Row) → Sized l → misfit_of l r ≡ l.analogs → n < 2 ^ 32 → r.time < 2 ^ 32
    → text_length l n r ≤ 2048
unfolding misfit_of
text-short l n r fit all hn ht = omega (arith, text-line l n r, line-most l n r fit hn ht (misfit-all l r.samples all))

pub written-few : (l : Layout) (n : ℕ) (r : Row) (room : ℕ) (w : Result ℕ Refusal) → n < 2 ^ 32 → r.time < 2 ^ 32 → w ≡ written_of (write_said l n r room) → FewBytes w
unfolding length_of
written-few l n r room (Err q) hn ht e = tt
written-few l n r room (Ok m) hn ht e =
    let t = written-told (write_said l n r room) m (sym e) in
    let y = writable l n r room t.0 t.1 in
    let s : m ≡ length_of l n r = t.2 ∙ ap length y.bytes ∙ sym (length-bytes l n r) in
    by-kind l.kind
    (λ k. let q : m ≡ text_length l n r = s ∙ text-kind l.kind (text_length l n r) (row_size l) k in omega (arith, text-short l n r y.fit y.all hn ht))
    (λ k. let q : m ≡ row_size l = s ∙ binary-kind l.kind (text_length l n r) (row_size l) k in omega (arith, size-le l y.fit))
