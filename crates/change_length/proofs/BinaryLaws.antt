-- Laws of the length question from one binary kind to another.
--     both                  neither kind is text
--     decided-binary        what is decided, by the file's check, the rows that fit and a product
--     few-binary            the product is counted in 32 bits
--     file-size             the new file's length
--     row-binary, misfit-binary     a row, and its first misfit, in the bytes
-- Assumes nothing.
use mathlib.Core.Path.{◌≡◌, refl, sym, ◌∙◌}
use mathlib.Core.Bool.{true, false}
use mathlib.Core.List.{[], List}
use Prim.Native.Nat.{ℕ, zero, suc, ◌+◌, ◌*◌, ◌^◌, ◌<◌}
use native.Mathlib.Nat.{zero-mul, suc-mul, add-zero, mul-le-mul}
use native.Mathlib.Omega.{arith}
use Rattle.ground.specs.Said.{◌>>◌}
use Rattle.ground.proofs.Cases.{clash}
use Rattle.model.specs.declared.Kind.{Kind}
use Rattle.model.specs.declared.Kind.TheVariants.{Ascii}
use Rattle.model.specs.declared.Layout.{Layout}
use Rattle.model.specs.declared.Row.{Row}
use Rattle.model.specs.Layouts.{Sized, in_kind}
use Rattle.binary_row.specs.Rows as binary
use Rattle.binary_row.proofs.SizeLaws.{size-le}
use Rattle.binary_file.specs.Files.{check_binary, binary_row}
use Rattle.recode.specs.Inner.{misfit_in, fit_from}
use Rattle.ascii_plain.specs.Inner.{text_length}
use Rattle.ascii_file.specs.Files as ascii_file
use Rattle.row_bytes.specs.Rows.{by_kind}
use Rattle.row_bytes.specs.Inner.{length_of}
use Rattle.row_bytes.proofs.KindLaws.{text-kind, binary-kind, by-kind}
use Rattle.data.specs.Files.{file_fine, row_at, misfit_of, end_mark}
use Rattle.change_length.specs.Needed.{fit_rows}
use Rattle.change_length.specs.Inner.{rows_length, file_length, decided, both_binary, settle_binary}
use Rattle.model.proofs.LayoutLaws.{sized-in}

pub both : (k m : Kind) → both_binary k m ≡ true → (k ≡ Ascii → ⊥) × (m ≡ Ascii → ⊥)
both k m e =
    by-kind k
    (λ q. no (text-kind k false (by_kind m false true) q))
    (λ f. by-kind m (λ q. no (binary-kind k false (by_kind m false true) f ∙ text-kind m false true q)) (λ g. (f, g)))
  where
    no : {C : Type 0} → both_binary k m ≡ false → C
    no n = clash (cc)

module _ (l : Layout) (s : List ℕ) (k : Kind) (yes : both_binary l.kind k ≡ true) where
  abbrev new : Layout
  new = in_kind k l

  pub fine-binary : file_fine l s ≡ check_binary l s
  unfolding file_fine
  fine-binary = binary-kind l.kind (ascii_file.check_text l s) (check_binary l s) (both l.kind k yes).0

  pub row-binary : (i : ℕ) → row_at l s i ≡ binary_row l i s
  unfolding row_at
  row-binary i = binary-kind l.kind (ascii_file.text_row l i s) (binary_row l i s) (both l.kind k yes).0

  pub misfit-binary : (i : ℕ) → misfit_of new (row_at l s i) ≡ misfit_in l k s i
  unfolding misfit_of misfit_in
  misfit-binary i = rw (row-binary i)

  fit-binary : (i n : ℕ) → fit_rows new (row_at l s) i n ≡ fit_from l k s i n
  unfolding fit_rows fit_from
  fit-binary i zero = refl
  fit-binary i (suc n) = rw (misfit-binary i, fit-binary (i + 1) n)

  rows-binary : (r : ℕ → Row) (m : ℕ) → rows_length new r m ≡ m * binary.row_size new
  unfolding rows_length length_of
  rows-binary r zero = sym (zero-mul (binary.row_size new))
  rows-binary r (suc m) =
      rw (rows-binary r m, binary-kind k (text_length new (m + 1) (r m)) (binary.row_size new) (both l.kind k yes).1, suc-mul)

  pub file-size : file_length new (row_at l s) ≡ l.rows * binary.row_size new
  unfolding file_length end_mark
  file-size = rw (rows-binary (row_at l s) l.rows, binary-kind k ascii_file.mark [] (both l.kind k yes).1, add-zero)

  pub decided-binary : decided l s k ≡ (check_binary l s >> settle_binary l s k)
  unfolding decided settle_binary
  decided-binary = rw (fine-binary, fit-binary 0 l.rows, file-size)

pub few-binary : (l : Layout) (k : Kind) → Sized l → l.rows * binary.row_size (in_kind k l) < 2 ^ 32
few-binary l k s = omega (arith, mul-le-mul s.rows (size-le (in_kind k l) (sized-in k l s)))
