-- `text::field_length` meets its contract: its recursion is that of the place of the first comma.
-- Assumes nothing.
use mathlib.Core.Path.{refl, ◌∙◌}
use native.Mathlib.Omega.{arith}
use borrow.Author.Rules.{rules}
use borrow.Author.Tests.{tests, ltb-false}
use lib.Dec.{eqb, ltb}
use lib.ListN.{length}
use Rattle.std.proofs.lemmas.Iterator.{YieldsList-from_slice}
use Rattle.std.proofs.lemmas.Iterator.Search.{position_from_yields_List}
use Rattle.std.proofs.lemmas.List.Recursion.{is_position_or_len}
use Rattle.ground.proofs.Cases.{on_test}
use Rattle.text.specs.Fields.{field_length}
use Rattle.text.proofs.FieldLaws.{field-within}
use Rattle.text.proofs.field_length.Goals as goal

pub returns : goal.returns
returns c =
    let l = c.args.line.now in
    let m = is_position_or_len field_length (λ b. eqb b 44) refl (λ b l. on_test (eqb b 44) (λ e. rw e) (λ e. rw e (omega arith))) l in
    let p = position_from_yields_List (λ b. eqb b 44) _ _ c.position.result c.position.ensures.ran (YieldsList-from_slice l cc) (λ x b q k. search (rules, tests)) in
    c.unwrap_or.ensures
    ∙ rw (p, ← m)
    (on_test (ltb (field_length l) (length l)) (λ e. rw e) (λ e. rw e (omega (arith, ltb-false (field_length l) (length l) e, field-within l))))
