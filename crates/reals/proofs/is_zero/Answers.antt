-- `is_zero` meets its contract: the chain asks for each character what `every` does.
use mathlib.Core.Path.{refl, ◌∙◌}
use mathlib.Core.Bool.{◌&&◌}
use borrow.Author.Rules.{rules}
use borrow.Author.Tests.{tests}
use Rattle.std.specs.List.{list_all}
use Rattle.std.proofs.lemmas.Iterator.{YieldsList-from_slice}
use Rattle.std.proofs.lemmas.Iterator.Search.{all_from_yields_List}
use Rattle.std.proofs.lemmas.List.Recursion.{same_from_clauses}
use Rattle.ground.specs.Tables.{every}
use Rattle.reals.specs.Forms.{is_nought, is_zero}
use Rattle.reals.proofs.is_zero.Goals as goal

pub returns : goal.returns
unfolding is_zero
returns c =
    let m = c.args.m.now in
    let a = all_from_yields_List is_nought _ _ c.all.result c.all.ensures.ran (YieldsList-from_slice m cc) (λ x b q k. search (rules, tests)) in
    a ∙ same_from_clauses (list_all is_nought) (every is_nought) (λ b r. is_nought b && r) refl (λ _ _. refl) (λ _ _. refl) m
