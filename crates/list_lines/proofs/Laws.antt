-- Laws of the pieces of a line.
--     spaced-samples-next, spaced-statuses-next     one sample or status more
--     status-long                   how long a status is
-- Assumes nothing.
use mathlib.Core.Path.{◌≡◌, refl}
use mathlib.Core.Bool.{Bool, true, false}
use mathlib.Core.List.{◌∷◌, ◌++◌}
use Prim.Native.Nat.{ℕ, ◌+◌}
use lib.ListN.{length}
use Rattle.model.specs.declared.Row.{Row}
use Rattle.model.specs.Rows.{sample_at, status_at, status_value}
use Rattle.pieces.proofs.Laws.{cat-next}
use Rattle.list_lines.specs.Lines.{sample_word, spaced_samples, spaced_status, spaced_statuses}

pub spaced-samples-next : (r : Row) (i : ℕ) → spaced_samples r i ++ 32 ∷ sample_word (sample_at (i + 1) r) ≡ spaced_samples r (i + 1)
unfolding spaced_samples
spaced-samples-next r i = cat-next (λ j. 32 ∷ sample_word (sample_at (j + 1) r)) i

pub spaced-statuses-next : (r : Row) (i : ℕ) → spaced_statuses r i ++ spaced_status (status_value (status_at (i + 1) r)) ≡ spaced_statuses r (i + 1)
unfolding spaced_statuses
spaced-statuses-next r i = cat-next (λ j. spaced_status (status_value (status_at (j + 1) r))) i

pub status-long : (on : Bool) → length (spaced_status on) ≡ 2
unfolding spaced_status
status-long true = refl
status-long false = refl
