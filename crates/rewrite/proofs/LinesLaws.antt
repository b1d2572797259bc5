-- Laws of lines that are written one after the other.
--     lines_next, lines-last     one, and then the others; the last one
--     lines-again                lines that were written, written anew, where that does not depend on how they were written
-- Assumes nothing.
use mathlib.Core.Path.{◌≡◌, refl, ◌∙◌}
use mathlib.Core.Bool.{true}
use mathlib.Core.List.{List, [], ◌∷◌, ◌++◌}
use Prim.Native.Nat.{ℕ, ◌≤◌}
use lib.ListN.{length, take, drop}
use lib.Seq.{take-length, take-append_seam, drop-append-add}
use Rattle.text.specs.Lines.{line_bytes}
use Rattle.rewrite_lines.specs.declared.LineSort.{LineSort}
use Rattle.rewrite_sorts.specs.Cuts.{cut_line}
use Rattle.rewrite_sorts.proofs.CutLaws.{bytes_cut, cut-ended, cut-last}
use Rattle.rewrite.specs.Rewrite.{lines_text}

-- lines that are written anew
module _ (anew : LineSort → List ℕ → List ℕ) where
  pub lines_next : (sort : LineSort) (more : List LineSort) (l u : List ℕ) → line_bytes l ≡ true
      → lines_text anew (sort ∷ more) (l ++ 13 ∷ 10 ∷ u) ≡ anew sort l ++ 13 ∷ 10 ∷ lines_text anew more u
  unfolding lines_text
  lines_next sort more l u ok = rw (cut-ended l u ok, take-append_seam l (13 ∷ 10 ∷ u), drop-append-add)

  pub lines-last : (sort : LineSort) (l : List ℕ) → line_bytes l ≡ true → 1 ≤ length l → lines_text anew (sort ∷ []) l ≡ anew sort l ++ 13 ∷ 10 ∷ []
  unfolding lines_text
  lines-last sort l ok h = rw (cut-last l ok h, take-length)

pub lines-again : (again anew : LineSort → List ℕ → List ℕ)
    → ((sort : LineSort) (x : List ℕ) → line_bytes x ≡ true → (line_bytes (anew sort x) ≡ true) × (again sort (anew sort x) ≡ again sort x))
    → (more : List LineSort) (s : List ℕ) → lines_text again more (lines_text anew more s) ≡ lines_text again more s
unfolding lines_text
lines-again again anew same [] s = refl
lines-again again anew same (sort ∷ more) s =
    let w = same sort (take (cut_line s).len s) (bytes_cut s) in
    lines_next again sort more (anew sort (take (cut_line s).len s)) (lines_text anew more (drop (cut_line s).taken s)) w.0
    ∙ rw (w.1, lines-again again anew same more (drop (cut_line s).taken s))
