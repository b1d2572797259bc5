-- NOTHING TO BELIEVE HERE: what the writer says of a configuration that was accepted, as `rewrite_said` goes on after the reader.
use Rattle.std.specs.Prelude.{List, ℕ}
use Rattle.ground.specs.Said.{Said, ◌>>◌, must}
use Rattle.model.specs.declared.Kind.{Kind}
use Rattle.model.specs.declared.Refusal.{Refusal}
use Rattle.model.specs.Editions.{has_kind}
use Rattle.model.specs.Refusals.{refused}
use Rattle.config_rules.specs.declared.Config.{Config}
use Rattle.rewrite.specs.Rewrite.{rewritten, result_said}

-- in a kind that the edition has, or 10
unfoldable pub in_edition : Config → Kind → List ℕ → ℕ → Said Refusal (List ℕ)
in_edition c k s room = do
  must (has_kind c.layout.edition k) (refused 10 0 0)
  result_said (rewritten c k s) room
