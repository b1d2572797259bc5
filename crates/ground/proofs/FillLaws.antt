-- Laws of a slice that is filled place by place.
--     fill-next     one place more: a turn of the loop that fills it
--     filled        when every place is filled
-- Assumes nothing.
use mathlib.Core.Path.{◌≡◌, ◌∙◌}
use mathlib.Core.List.{List, ◌++◌, append-nil}
use Prim.Native.Nat.{ℕ, ◌+◌, ◌<◌, ◌≤◌}
use native.Mathlib.Omega.{arith}
use lib.ListN.{length, drop, set, length-set}
use lib.Seq.{drop-length}
use Rattle.ground.specs.Tables.{tab}
use Rattle.ground.proofs.Tables.{tab-set}

-- the first i places of d are f 0, f 1, .. , and the rest is as it was
abbrev pub Filled : {A : Type 0} → (ℕ → A) → List A → ℕ → List A → Type 0
Filled f old i d = (i ≤ length old) × (length d ≡ length old) × (d ≡ tab f i ++ drop i old)

module _ {A : Type 0} (f : ℕ → A) (old d : List A) (i : ℕ) (inv : Filled f old i d) where
  pub fill-next : (y : A) → i < length d → y ≡ f i → Filled f old (i + 1) (set d i y)
  fill-next y h e =
      let l : i < length old = omega (arith, inv.1) in
      (omega arith, simp length-set inv.1, rw (e, inv.2) (tab-set f old i l))

  pub filled : length d ≤ i → d ≡ tab f (length old)
  filled h =
      let e : i ≡ length old = omega (arith, inv.0, inv.1) in
      inv.2 ∙ rw (e, drop-length, append-nil)
