-- `fits_pattern` meets its contract: of two of one length the chain asks for each pair what the recursion does.
use mathlib.Core.Path.{◌≡◌, refl, ◌∙◌}
use mathlib.Core.Bool.{Bool}
use mathlib.Core.List.{List, [], ◌∷◌}
use Prim.Native.Nat.{ℕ}
use native.Mathlib.Omega.{arith}
use borrow.Author.Rules.{rules}
use borrow.Author.Tests.{tests, ne_eqb}
use lib.ListN.{length}
use Rattle.std.specs.List.{list_all, zip}
use Rattle.std.proofs.lemmas.Iterator.{YieldsList-from_slice, YieldsList-from_zip}
use Rattle.std.proofs.lemmas.Iterator.Search.{all_from_yields_List}
use Rattle.patterns.specs.Patterns.{fits_character, fits_pattern}
use Rattle.patterns.proofs.PatternLaws.{fits-apart}
use Rattle.patterns.proofs.fits_pattern.Goals as goal

-- a character fits that of the pattern
abbrev fits : ℕ × ℕ → Bool
fits p = fits_character p.0 p.1

fit-pairs : (ps l : List ℕ) → length ps ≡ length l → list_all fits (zip ps l) ≡ fits_pattern ps l
unfolding fits_pattern
fit-pairs [] [] h = refl
fit-pairs [] (b ∷ l) h = absurd (omega arith)
fit-pairs (p ∷ ps) [] h = absurd (omega arith)
fit-pairs (p ∷ ps) (b ∷ l) h = rw (fit-pairs ps l (omega arith))

pub returns-then-pattern-s : goal.returns-then-pattern-s
returns-then-pattern-s c =
    let ps = c.args.pattern.now in
    let l = c.args.s.now in
    all_from_yields_List fits c.all.new.self _ c.all.result c.all.ensures.ran (YieldsList-from_zip (YieldsList-from_slice ps cc) (YieldsList-from_slice l cc)) (λ x b q k. search (rules, tests))
    ∙ fit-pairs ps l c.if-pattern-s.true

pub returns-else-pattern-s : goal.returns-else-pattern-s
returns-else-pattern-s c = rw (ne_eqb _ _ c.if-pattern-s.false, fits-apart _ _ c.if-pattern-s.false)
