-- The exported call that writes a configuration.
use Rattle.std.specs.Prelude.{List, ℕ}
use Rattle.ground.specs.Said.{Said, ◌>>=◌, answer_said}
use Rattle.model.specs.declared.Refusal.{Refusal}
use Rattle.model.specs.Kinds.{kind_of}
use Rattle.config.specs.Config.{read_config}
use Rattle.rewrite.specs.Rewrite.{rewrite_said}
use Rattle.answers.specs.Answers.{known}

-- zl_write_config: the reader's refusals, then 10 for a kind's number that no kind has, then those of the writer
unfoldable pub write_config_call : List ℕ → ℕ → ℕ → Said Refusal (List ℕ)
write_config_call s kind room = do
  c ← answer_said (read_config s)
  k ← known (kind_of kind)
  rewrite_said s k room
