-- Laws of the sorts of lines.
--     sort-group, sort-after     a sort of a group of equal ones, and of what follows them
--     sorts-length, end_short    how many lines there are, and that those after the time multiplier are two at most
-- Assumes nothing.
use mathlib.Core.Path.{◌≡◌, refl}
use mathlib.Core.List.{List, ◌++◌}
use Prim.Native.Nat.{ℕ, zero, suc, ◌+◌, ◌-◌, ◌<◌, ◌≤◌, max}
use native.Mathlib.Nat.{sub-zero}
use native.Mathlib.Omega.{arith}
use lib.ListN.{length, get_or, replicate, length-append, length-replicate}
use Rattle.model.specs.declared.Edition.{Edition}
use Rattle.model.specs.declared.Edition.TheVariants.{Y2013, Y1999}
use Rattle.config_rules.specs.declared.Config.{Config}
use Rattle.rewrite_lines.specs.declared.LineSort.{LineSort}
use Rattle.rewrite_lines.specs.declared.LineSort.TheVariants.{Kept}
use Rattle.rewrite_sorts.specs.Sorts.{end_sorts, sorts}

module _ (a : LineSort) (more : List LineSort) where
  pub sort-group : (m n : ℕ) → n < m → get_or (replicate m a ++ more) n Kept ≡ a
  sort-group zero n h = absurd (omega arith)
  sort-group (suc m) zero h = refl
  sort-group (suc m) (suc n) h = sort-group m n (omega arith)

  pub sort-after : (m n : ℕ) → m ≤ n → get_or (replicate m a ++ more) n Kept ≡ get_or more (n - m) Kept
  sort-after zero n h = rw sub-zero
  sort-after (suc m) zero h = absurd (omega arith)
  sort-after (suc m) (suc n) h = let e : suc n - suc m ≡ n - m = omega arith in rw e (sort-after m n (omega arith))

pub sorts-length : (c : Config) → length (sorts c) ≡ 8 + c.layout.analogs + c.layout.statuses + max 1 c.rates + length (end_sorts c.layout.edition)
unfolding sorts
sorts-length c = simp (length-append, length-replicate) (omega arith)

pub end_short : (e : Edition) → length (end_sorts e) ≤ 2
end_short Y2013 = omega arith
end_short Y1999 = omega arith
