-- Laws of fields.
--     other_length     a field that is as long as another word is another word
-- Assumes nothing.
use mathlib.Core.Path.{◌≡◌, refl, ap}
use mathlib.Core.Bool.{false}
use mathlib.Core.List.{List, [], ◌∷◌}
use Prim.Native.Nat.{ℕ, suc}
use lib.Dec.{eqb}
use lib.ListN.{length}
use Rattle.ground.proofs.Cases.{on_test}
use Rattle.fields.specs.Fields.{small, same_word}

pub other_length : (w l : List ℕ) → (length w ≡ length l → ⊥) → same_word w l ≡ false
other_length [] [] h = absurd (h refl)
other_length [] (b ∷ l) h = refl
other_length (a ∷ w) [] h = refl
other_length (a ∷ w) (b ∷ l) h =
    on_test (eqb (small b) a) (λ e. rw e (other_length w l (λ q. h (ap suc q)))) (λ e. rw e)
