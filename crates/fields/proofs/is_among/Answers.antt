-- `is_among` meets its contract: `contains` recurses as it does.
use mathlib.Core.Path.{refl, ◌∙◌}
use mathlib.Core.Bool.{◌||◌}
use lib.Dec.{eqb}
use Rattle.std.specs.List.{list_any}
use Rattle.std.proofs.lemmas.List.Recursion.{same_from_clauses}
use Rattle.ground.proofs.Cases.{on_test}
use Rattle.fields.specs.Fields.{is_among}
use Rattle.fields.proofs.is_among.Goals as goal

pub returns : goal.returns
returns c =
    let b = c.args.b in
    c.contains.ensures.value ∙ same_from_clauses (list_any (λ a. eqb a b)) (is_among b) (λ a r. eqb a b || r) refl (λ _ _. refl) (λ a l. on_test (eqb a b) (λ e. rw e) (λ e. rw e)) c.args.allowed.now
