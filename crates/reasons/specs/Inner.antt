-- NOTHING TO BELIEVE HERE: the text of a number that has one, for the law `reason-told` (proofs/Laws.antt).
use Rattle.std.specs.Prelude.{List, [], ℕ, ◌+◌}
use Rattle.ground.specs.Said.{Said, says, refuses}
use Rattle.model.specs.declared.Refusal.{Refusal}
use Rattle.reasons.specs.Reasons.{reason_of}

-- the text that is said, none beside a refusal
abbrev pub text_in : Said Refusal (List ℕ) → List ℕ
text_in (says text) = text
text_in (refuses r) = []

-- the text of number i + 1
unfoldable pub reason_text : ℕ → List ℕ
reason_text i = text_in (reason_of (i + 1))
