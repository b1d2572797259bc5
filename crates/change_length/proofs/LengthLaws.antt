-- Laws of the length of the new file.
--     rows_next, rows-within, length-rows     the length of the first m rows, one row more, and within all
--     length-file                             the length that is told is that of the new file
--     changed-length, needed-decided, needed-length     the length question tells the new file's length
-- Assumes nothing.
use mathlib.Core.Path.{◌≡◌, refl, sym, ap, ◌∙◌}
use mathlib.Core.Bool.{true}
use mathlib.Core.List.{List}
use Prim.Native.Nat.{ℕ, zero, suc, ◌+◌, ◌<◌, ◌≤◌}
use native.Mathlib.Numerals.{add-one}
use native.Mathlib.Omega.{arith}
use lib.ListN.{length, length-append}
use Rattle.ground.specs.Said.{says, ◌>>◌, must}
use Rattle.ground.proofs.Cases.{lt-or-ge}
use Rattle.ground.proofs.SaidLaws.{must-told, then-told}
use mathlib.Core.Logic.{⊎_elim}
use Rattle.model.specs.declared.Kind.{Kind}
use Rattle.model.specs.declared.Layout.{Layout}
use Rattle.model.specs.declared.Row.{Row}
use Rattle.model.specs.Editions.{has_kind}
use Rattle.model.specs.Layouts.{is_sized, in_kind}
use Rattle.model.specs.Refusals.{refused}
use Rattle.row_bytes.specs.Rows.{bytes_of}
use Rattle.row_bytes.specs.Inner.{length_of}
use Rattle.row_bytes.proofs.RowLaws.{length-bytes}
use Rattle.data.specs.Files.{file_fine, row_at, file_of}
use Rattle.change_length.specs.Needed.{fit_rows, changed, bytes_needed}
use Rattle.change_length.specs.Inner.{rows_length, file_length, decided, rows_bytes}

module _ (l : Layout) (r : ℕ → Row) where
  pub rows_next : (i : ℕ) → rows_length l r (i + 1) ≡ rows_length l r i + length_of l (i + 1) (r i)
  unfolding rows_length
  rows_next i = ap (rows_length l r) (add-one i)

  pub rows-within : (m i : ℕ) → i < m → rows_length l r i + length_of l (i + 1) (r i) ≤ rows_length l r m
  unfolding rows_length
  rows-within zero i h = absurd (omega arith)
  rows-within (suc m) i h =
      ⊎_elim
      (λ k. omega (arith, rows-within m i k))
      (λ k. let e : i ≡ m = omega arith in rw e (omega arith))
      (lt-or-ge i m)

  pub length-rows : (m : ℕ) → length (rows_bytes l r m) ≡ rows_length l r m
  unfolding rows_length
  length-rows zero = refl
  length-rows (suc m) = length-append (rows_bytes l r m) (bytes_of l (m + 1) (r m)) ∙ rw (length-rows m, length-bytes l (m + 1) (r m))

  pub length-file : file_length l r ≡ length (file_of l r)
  unfolding file_length file_of
  length-file = rw (length-append, length-rows l.rows)

module _ (l : Layout) (s : List ℕ) (k : Kind) where
  pub changed-length : length (changed l s k) ≡ file_length (in_kind k l) (row_at l s)
  unfolding changed
  changed-length = sym (length-file (in_kind k l) (row_at l s))

  pub needed-decided : is_sized l ≡ true → has_kind l.edition k ≡ true → bytes_needed l s k ≡ decided l s k
  unfolding bytes_needed decided
  needed-decided ok has = rw (ok, has, changed-length)

  pub needed-length : (m : ℕ) → bytes_needed l s k ≡ says m → m ≡ length (changed l s k)
  unfolding bytes_needed
  needed-length m e =
      let last = says (length (changed l s k)) in
      let rows = fit_rows (in_kind k l) (row_at l s) 0 l.rows in
      let kind = must (has_kind l.edition k) (refused 10 0 0) in
      let a = must-told (is_sized l) (refused 10 0 0) (kind >> (file_fine l s >> (rows >> last))) m e in
      let h = must-told (has_kind l.edition k) (refused 10 0 0) (file_fine l s >> (rows >> last)) m a.1 in
      let f = then-told (file_fine l s) (rows >> last) m h.1 in
      let g = then-told rows last m f.1 in
      cc g.1
