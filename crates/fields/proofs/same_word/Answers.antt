-- `same_word` meets its contract: of two of one length the chain asks for each pair what the recursion does.
use mathlib.Core.Path.{◌≡◌, refl, ◌∙◌}
use mathlib.Core.Bool.{Bool}
use mathlib.Core.List.{List, [], ◌∷◌}
use Prim.Native.Nat.{ℕ}
use native.Mathlib.Omega.{arith}
use borrow.Author.Rules.{rules}
use borrow.Author.Tests.{tests, ne_eqb}
use lib.Dec.{eqb}
use lib.ListN.{length}
use Rattle.std.specs.List.{list_all, zip}
use Rattle.std.proofs.lemmas.Iterator.{YieldsList-from_slice, YieldsList-from_zip}
use Rattle.std.proofs.lemmas.Iterator.Search.{all_from_yields_List}
use Rattle.ground.proofs.Cases.{on_test}
use Rattle.fields.specs.Fields.{small, same_word}
use Rattle.fields.proofs.Laws.{other_length}
use Rattle.fields.proofs.same_word.Goals as goal

-- a pair is the same letter
abbrev same : ℕ × ℕ → Bool
same p = eqb (small p.1) p.0

same-pairs : (w l : List ℕ) → length w ≡ length l → list_all same (zip w l) ≡ same_word w l
same-pairs [] [] h = refl
same-pairs [] (b ∷ l) h = absurd (omega arith)
same-pairs (a ∷ w) [] h = absurd (omega arith)
same-pairs (a ∷ w) (b ∷ l) h = on_test (eqb (small b) a) (λ e. rw e (same-pairs w l (omega arith))) (λ e. rw e)

pub returns-then-word-field : goal.returns-then-word-field
returns-then-word-field c =
    let w = c.args.word.now in
    let l = c.args.field.now in
    all_from_yields_List same c.all.new.self _ c.all.result c.all.ensures.ran (YieldsList-from_zip (YieldsList-from_slice w cc) (YieldsList-from_slice l cc)) (λ x b q k. search (rules, tests))
    ∙ same-pairs w l c.if-word-field.true

pub returns-else-word-field : goal.returns-else-word-field
returns-else-word-field c = rw (ne_eqb _ _ c.if-word-field.false, other_length _ _ c.if-word-field.false)
