-- Lines that are written anew, one after the other: what is written of a text is told by its lines.
--     part_then                 a part, and what follows it
--     next, last                a line with its CR LF, and the last line with it or without
--     split                     lines of one sort, and what follows them
--     group_lines, rate-group   lines of channels, and of rates, are such lines again where each line is
--     rate-lines                the lines of rates are lines
--     same                      lines that stay are the text itself
--     short                     lines that get no longer are together no longer
--     line_at, lines_are         what is written, line by line
-- Assumes nothing.
use mathlib.Core.Path.{◌≡◌, refl, sym, ap, ◌∙◌}
use mathlib.Core.Logic.{◌⊎◌, inl, inr}
use mathlib.Core.List.{List, [], ◌∷◌, ◌++◌, append_assoc, append-nil}
use Prim.Native.Nat.{ℕ, zero, suc, ◌+◌, ◌≤◌}
use native.Mathlib.Numerals.{add-one}
use native.Mathlib.Omega.{arith}
use lib.ListN.{length, take, drop, get_or, replicate, length-append}
use Rattle.ground.specs.Quoted.{quoted}
use Rattle.ground.specs.Tables.{cat}
use Rattle.ground.proofs.Tables.{cat-front, cat-ext}
use Rattle.reals.specs.declared.Sign.{Sign}
use Rattle.paper.specs.Lines.{Line, ended, RateLine}
use Rattle.paper.specs.Configuration.{Lines, RateLines}
use Rattle.rewrite_lines.specs.declared.LineSort.{LineSort}
use Rattle.rewrite_lines.specs.declared.LineSort.TheVariants.{Kept}
use Rattle.rewrite_sorts.specs.Cuts.{cut_line}
use Rattle.rewrite.specs.Rewrite.{lines_text}
use Rattle.rewrite.proofs.LinesLaws.{lines_next, lines-last}

-- a part, and what follows it
pub part_then : {x y z : List ℕ} (a : List ℕ) → x ≡ a ++ y → y ≡ z → x ≡ a ++ z
part_then a p q = p ∙ ap (◌++◌ a) q

-- line i of a text, counted from 0
abbrev pub line_at : ℕ → List ℕ → List ℕ
line_at zero s = take (cut_line s).len s
line_at (suc i) s = line_at i (drop (cut_line s).taken s)

-- by a way to write a line anew
module _ (anew : LineSort → List ℕ → List ℕ) where
  none : (s : List ℕ) → lines_text anew [] s ≡ []
  unfolding lines_text
  none s = refl

  pub next : {P : List ℕ → Type 0} (sort : LineSort) (more : List LineSort) (l u : List ℕ) → Line P l
      → lines_text anew (sort ∷ more) (ended l ++ u) ≡ ended (anew sort l) ++ lines_text anew more u
  next sort more l u w =
      ap (lines_text anew (sort ∷ more)) (append_assoc l (quoted "\r\n") u)
      ∙ lines_next anew sort more l u w.bytes
      ∙ sym (append_assoc (anew sort l) (quoted "\r\n") (lines_text anew more u))

  pub last : {P : List ℕ → Type 0} (sort : LineSort) (l e : List ℕ) → Line P l → 1 ≤ length l → (e ≡ []) ⊎ (e ≡ quoted "\r\n")
      → lines_text anew (sort ∷ []) (l ++ e) ≡ ended (anew sort l)
  last sort l e w h (inl q) =
      ap (λ (x : List ℕ). lines_text anew (sort ∷ []) (l ++ x)) q ∙ ap (lines_text anew (sort ∷ [])) (append-nil l) ∙ lines-last anew sort l w.bytes h
  last sort l e w h (inr q) =
      ap (λ (x : List ℕ). lines_text anew (sort ∷ []) (l ++ x)) q
      ∙ lines_next anew sort [] l [] w.bytes
      ∙ ap (λ (x : List ℕ). anew sort l ++ 13 ∷ 10 ∷ x) (none [])

  first : {Q : List ℕ → Type 0} (sort : LineSort) (m : ℕ) (l r t : List ℕ) → t ≡ ended l ++ r → Line Q l
      → lines_text anew (replicate (suc m) sort) t ≡ ended (anew sort l) ++ lines_text anew (replicate m sort) r
  first sort m l r t e q = ap (lines_text anew (replicate (suc m) sort)) e ∙ next sort (replicate m sort) l r q

  pub split : (P : ℕ → List ℕ → Type 0) (sort : LineSort) (i m : ℕ) (t u : List ℕ) (more : List LineSort) → Lines P i m t
      → lines_text anew (replicate m sort ++ more) (t ++ u) ≡ lines_text anew (replicate m sort) t ++ lines_text anew more u
  split P sort i zero t u more e = rw (e, none)
  split P sort i (suc m) t u more (l, r, e, q, rest) =
      ap (λ (x : List ℕ). lines_text anew (sort ∷ (replicate m sort ++ more)) (x ++ u)) e
      ∙ ap (lines_text anew (sort ∷ (replicate m sort ++ more))) (append_assoc (ended l) r u)
      ∙ next sort (replicate m sort ++ more) l (r ++ u) q
      ∙ ap (◌++◌ (ended (anew sort l))) (split P sort (i + 1) m r u more rest)
      ∙ sym (append_assoc (ended (anew sort l)) (lines_text anew (replicate m sort) r) (lines_text anew more u))
      ∙ ap (λ (x : List ℕ). x ++ lines_text anew more u) (sym (first sort m l r t e q))

  pub group_lines : {P : ℕ → List ℕ → Type 0} (sort : LineSort) → ((i : ℕ) (l : List ℕ) → Line (P i) l → Line (P i) (anew sort l))
      → (i m : ℕ) (t : List ℕ) → Lines P i m t → Lines P i m (lines_text anew (replicate m sort) t)
  group_lines sort each i zero t e = none t
  group_lines sort each i (suc m) t (l, r, e, q, rest) =
      (anew sort l, lines_text anew (replicate m sort) r, first sort m l r t e q, each i l q, group_lines sort each (i + 1) m r rest)

  pub rate-group : {sign : Sign} (sort : LineSort) → ((before last : ℕ) (l : List ℕ) → Line (RateLine sign before last) l → Line (RateLine sign before last) (anew sort l))
      → (before : ℕ) (lasts t : List ℕ) → RateLines sign before lasts t → RateLines sign before lasts (lines_text anew (replicate (length lasts) sort) t)
  rate-group sort each before [] t e = none t
  rate-group sort each before (n ∷ lasts) t (l, r, e, q, rest) =
      (anew sort l, lines_text anew (replicate (length lasts) sort) r, first sort (length lasts) l r t e q, each before n l q, rate-group sort each n lasts r rest)

  pub short : (P : ℕ → List ℕ → Type 0) (sort : LineSort) → ((l : List ℕ) → length (anew sort l) ≤ length l)
      → (i m : ℕ) (t : List ℕ) → Lines P i m t → length (lines_text anew (replicate m sort) t) ≤ length t
  short P sort each i zero t e = rw none (omega arith)
  short P sort each i (suc m) t (l, r, e, q, rest) =
      rw (first sort m l r t e q, e) (simp length-append (omega (arith, each l, short P sort each (i + 1) m r rest)))

  pub lines_are : (sorts : List LineSort) (s : List ℕ) → lines_text anew sorts s ≡ cat (λ i. ended (anew (get_or sorts i Kept) (line_at i s))) (length sorts)
  unfolding lines_text
  lines_are [] s = refl
  lines_are (sort ∷ more) s =
      let f : ℕ → List ℕ = λ i. ended (anew (get_or (sort ∷ more) i Kept) (line_at i s)) in
      let r = drop (cut_line s).taken s in
      sym (append_assoc (anew sort (line_at 0 s)) (quoted "\r\n") (lines_text anew more r))
      ∙ ap (◌++◌ (f 0)) (lines_are more r ∙ cat-ext (λ i. ended (anew (get_or more i Kept) (line_at i r))) (λ i. f (i + 1)) (length more) (λ i h. rw add-one))
      ∙ sym (cat-front f (length more))

pub rate-lines : (sign : Sign) (i before : ℕ) (lasts t : List ℕ) → RateLines sign before lasts t → Lines (λ j l. Unit {0}) i (length lasts) t
rate-lines sign i before [] t e = e
rate-lines sign i before (n ∷ lasts) t (l, r, e, q, rest) = (l, r, e, record { bytes = q.bytes; is = tt }, rate-lines sign (i + 1) n lasts r rest)

pub same : (P : ℕ → List ℕ → Type 0) (sort : LineSort) (i m : ℕ) (t : List ℕ) → Lines P i m t → lines_text (λ sort l. l) (replicate m sort) t ≡ t
same P sort i zero t e = none (λ sort l. l) t ∙ sym e
same P sort i (suc m) t (l, r, e, q, rest) = first (λ sort l. l) sort m l r t e q ∙ ap (◌++◌ (ended l)) (same P sort (i + 1) m r rest) ∙ sym e
