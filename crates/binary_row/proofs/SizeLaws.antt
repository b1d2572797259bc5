-- Laws of the size of a row.
--     samples-le, size-le       what a layout within the limits can take
--     sizes                     the size of a row, as a sum
--     samples-length, words-length     the samples and the status words of bytes that are a row
-- Assumes nothing.
use mathlib.Core.Path.{◌≡◌, refl, ◌∙◌}
use mathlib.Core.List.{List}
use Prim.Native.Nat.{ℕ, ◌+◌, ◌*◌, ◌≤◌}
use native.Mathlib.Nat.{mul-le-mul}
use native.Mathlib.Omega.{arith}
use lib.ListN.{length}
use Rattle.ground.proofs.Parts.{length_part}
use Rattle.model.specs.declared.Layout.{Layout}
use Rattle.model.specs.Kinds.{width_of}
use Rattle.model.specs.Layouts.{Sized}
use Rattle.model.proofs.KindLaws.{width-le}
use Rattle.binary_row.specs.Rows.{words_of, samples_end, row_size, samples_part, words_part}

pub samples-le : (l : Layout) → Sized l → l.analogs * width_of l.kind ≤ 384
samples-le l s = mul-le-mul s.analogs (width-le l.kind)

pub sizes : (l : Layout) → row_size l ≡ samples_end l + 2 * words_of l.statuses
unfolding row_size
sizes l = refl

pub size-le : (l : Layout) → Sized l → row_size l ≤ 424
size-le l s = omega (arith, sizes l, samples-le l s)

module _ (l : Layout) (b : List ℕ) (long : length b ≡ row_size l) where
  pub samples-length : length (samples_part l b) ≡ l.analogs * width_of l.kind
  samples-length = length_part 8 (samples_end l) b (omega (arith, sizes l)) ∙ omega arith

  pub words-length : length (words_part l b) ≡ 2 * words_of l.statuses
  words-length = length_part (samples_end l) (row_size l) b (omega arith) ∙ omega (arith, sizes l)
