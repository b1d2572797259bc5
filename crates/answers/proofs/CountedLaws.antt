-- Laws of the exported answer.
--     counted-written, counted-needed     the exported answer of so many bytes is that of what was said
-- Assumes nothing.
use mathlib.Core.Path.{◌≡◌, refl}
use mathlib.Core.List.{List}
use Prim.Native.Nat.{ℕ}
use Rattle.ground.specs.Said.{Said, says, refuses, answer_of}
use Rattle.model.specs.declared.Refusal.{Refusal}
use Rattle.model.specs.Refusals.{written_of}
use Rattle.answers.specs.Answers.{told, told_written}
use Rattle.answers.specs.Inner.{counted}

pub counted-written : (x : Said Refusal (List ℕ)) → counted (written_of x) ≡ told_written x
counted-written (says new) = refl
counted-written (refuses r) = refl

pub counted-needed : (x : Said Refusal ℕ) → counted (answer_of x) ≡ told x
counted-needed (says m) = refl
counted-needed (refuses r) = refl
