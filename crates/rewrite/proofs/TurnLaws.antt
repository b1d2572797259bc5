-- Laws of a walk over the lines of a configuration: each turn writes one line, and at the end all are written.
--     lines-done       what is written from a place on, where no line is left: nothing
--     lines-ended      and where one is: the line with its end, and then the others
--     length-turn      and how long it is
-- Assumes nothing.
use mathlib.Core.Path.{◌≡◌, sym, ◌∙◌}
use mathlib.Core.List.{List, [], ◌∷◌, ◌++◌, append_assoc}
use Prim.Native.Nat.{ℕ, ◌+◌, ◌-◌, ◌<◌, ◌≤◌}
use native.Mathlib.Omega.{arith}
use lib.ListN.{length, get_or, drop, length-append}
use lib.Seq.{drop-drop}
use Rattle.ground.specs.Tables.{part}
use Rattle.ground.proofs.Walk.{here-any, done, rest}
use Rattle.rewrite_lines.specs.declared.LineSort.{LineSort}
use Rattle.rewrite_lines.specs.declared.LineSort.TheVariants.{Kept}
use Rattle.text.specs.declared.Line.{Line}
use Rattle.rewrite_sorts.specs.Cuts.{cut_line}
use Rattle.rewrite.specs.Rewrite.{lines_text}

-- line n, which begins at `at`
module _ (anew : LineSort → List ℕ → List ℕ) (all : List LineSort) (s : List ℕ) (n at : ℕ) where
  pub lines-done : length all ≤ n → lines_text anew (drop n all) (drop at s) ≡ []
  unfolding lines_text
  lines-done h = rw (done all n h)

  module _ (h : n < length all) (sort : LineSort) (cut : Line) (its : sort ≡ get_or all n Kept) (found : cut ≡ cut_line (part at (length s) s)) where
    abbrev line : List ℕ
    line = anew sort (part at (at + cut.len) s)

    abbrev others : List ℕ
    others = lines_text anew (drop (n + 1) all) (drop (at + cut.taken) s)

    lines-turn : lines_text anew (drop n all) (drop at s) ≡ line ++ 13 ∷ 10 ∷ others
    unfolding lines_text
    lines-turn =
        let e : at + cut.len - at ≡ cut.len = omega arith in
        rw (here-any Kept all n h, e, ← drop-drop cut.taken at s, its, found, rest)

    -- the line with its end, and then the others
    pub lines-ended : lines_text anew (drop n all) (drop at s) ≡ (line ++ 13 ∷ 10 ∷ []) ++ others
    lines-ended = lines-turn ∙ sym (append_assoc line (13 ∷ 10 ∷ []) others)

    pub length-turn : length (lines_text anew (drop n all) (drop at s)) ≡ length line + 2 + length others
    length-turn = rw (lines-turn, length-append) (omega arith)
