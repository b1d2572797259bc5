-- NOTHING TO BELIEVE HERE: what the exported answer is of an answer of the calls below. The laws `counted-written` and `counted-needed` (proofs/CountedLaws.antt) tie it to what those say.
use Rattle.ground.specs.Said.{says, ◌>>◌, answer_said}
use Rattle.std.specs.Prelude.{Err, Ok, Result, ℕ}
use Rattle.model.specs.declared.Refusal.{Refusal}
use Rattle.answers.specs.declared.zl_answer.{zl_answer}
use Rattle.answers.specs.Answers.{yes, no, told}

-- of a check: it has no length
abbrev pub plainly : Result (Unit {0}) Refusal → zl_answer
plainly a = told (do
  answer_said a
  says 0)

-- of a call that tells so many bytes
abbrev pub counted : Result ℕ Refusal → zl_answer
counted (Ok m) = yes m
counted (Err r) = no r
