-- What the call says, by the kind's number.
--     call-writes      the kind of the number: what the writer says
--     call-refuses     no such kind: the reader's refusal, or else 10
-- Assumes nothing.
use mathlib.Core.Path.{◌≡◌, refl}
use mathlib.Core.List.{List}
use Prim.Native.Nat.{ℕ}
use Rattle.ground.specs.Said.{Said, says, refuses, ◌>>=◌, ◌>>◌, must, answer_said}
use Rattle.std.proofs.Common.{Err, None, Ok, Result, Some}
use Rattle.model.specs.declared.Kind.{Kind}
use Rattle.model.specs.declared.Refusal.{Refusal}
use Rattle.model.specs.Kinds.{kind_of}
use Rattle.model.specs.Editions.{has_kind}
use Rattle.model.specs.Refusals.{refused}
use Rattle.config_rules.specs.declared.Config.{Config}
use Rattle.config.specs.Config.{read_config}
use Rattle.rewrite.specs.Rewrite.{rewritten, result_said, rewrite_said}
use Rattle.calls_rewrite.specs.Calls.{write_config_call}
use Rattle.calls_rewrite.specs.Inner.{refusal_or}

-- what was said once is said once more
once_more : {A B : Type 0} (x : Said Refusal A) (f : A → Said Refusal B) → (x >>= λ a. x >>= f) ≡ (x >>= f)
once_more (says a) f = refl
once_more (refuses r) f = refl

pub call-writes : (s : List ℕ) (kind : ℕ) (k : Kind) (room : ℕ) → kind_of kind ≡ Some k → write_config_call s kind room ≡ rewrite_said s k room
unfolding write_config_call rewrite_said
call-writes s kind k room e = rw e (once_more (answer_said (read_config s)) (λ c. must (has_kind c.layout.edition k) (refused 10 0 0) >> result_said (rewritten c k s) room))

pub call-refuses : (s : List ℕ) (kind room : ℕ) → kind_of kind ≡ None → write_config_call s kind room ≡ refuses (refusal_or (read_config s) (refused 10 0 0))
unfolding write_config_call
call-refuses s kind room e = rw e (go (read_config s))
  where
    go : (a : Result Config Refusal) → ◌≡◌ {A = Said Refusal (List ℕ)} (answer_said a >>= λ c. refuses (refused 10 0 0)) (refuses (refusal_or a (refused 10 0 0)))
    go (Ok c) = refl
    go (Err r) = refl
