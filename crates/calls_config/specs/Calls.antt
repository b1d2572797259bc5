-- The exported call on a configuration.
use Rattle.std.specs.Prelude.{List, ℕ, ℤ}
use Rattle.ground.specs.Said.{Said, ◌>>=◌, answer_said}
use Rattle.model.specs.declared.Refusal.{Refusal}
use Rattle.config.specs.Config.{read_config}
use Rattle.config_places.specs.Configs.{config_places}
use Rattle.answers.specs.Answers.{placed}

-- zl_config: the places of a configuration; no room last of all
unfoldable pub config_call : List ℕ → ℕ → Said Refusal (List ℤ)
config_call s room = do
  c ← answer_said (read_config s)
  placed 35 (config_places c) room
