-- `text::field_count` meets its contract: the commas are those that the chain counts.
-- Assumes nothing.
use Rattle.std.specs.Prelude.{count_by}
use Rattle.std.proofs.lemmas.List.Recursion.{is_count_by}
use mathlib.Core.Path.{◌≡◌, refl}
use native.Mathlib.Omega.{arith}
use borrow.Author.Rules.{rules}
use lib.Dec.{eqb}
use Rattle.ground.proofs.Cases.{on_test}
use Rattle.text.specs.Fields.{commas, field_count}
use Rattle.text.proofs.field_count.Goals as goal

pub returns : goal.returns
unfolding field_count
returns c =
    let l = c.args.line.now in
    let n : c.count.result ≡ count_by (λ b. eqb b 44) l = search rules in
    let m = is_count_by commas (λ b. eqb b 44) refl (λ b l. on_test (eqb b 44) (λ e. rw e (omega arith)) (λ e. rw e)) l in
    omega arith
