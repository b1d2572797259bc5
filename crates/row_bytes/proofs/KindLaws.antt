-- Laws of what is said by the kind.
--     text-kind                   text
--     binary-arm, not-text, binary-kind     the two binary kinds, by the two, or as those that are not text
--     by-kind                     text or one of the binary kinds
--     kind-only                   what is said by the kind refuses only with what has a property, where both do
-- Assumes nothing.
use mathlib.Core.Path.{◌≡◌, refl, ap}
use mathlib.Core.Logic.{◌⊎◌, ⊎_elim}
use Prim.Native.Nat.{ℕ}
use native.Mathlib.Omega.{arith}
use Rattle.ground.specs.Said.{Said}
use Rattle.ground.proofs.RefusalLaws.{RefusesOnly}
use Rattle.model.specs.declared.Kind.{Kind}
use Rattle.model.specs.declared.Kind.TheVariants.{Ascii, Binary, Binary32}
use Rattle.model.specs.Kinds.{kind_number}
use Rattle.row_bytes.specs.Rows.{by_kind}

pub binary-arm : {A : Type 0} (k : Kind) (text binary : A) → (k ≡ Binary) ⊎ (k ≡ Binary32) → by_kind k text binary ≡ binary
binary-arm k text binary h = ⊎_elim (λ e. rw e) (λ e. rw e) h

pub text-kind : {A : Type 0} (k : Kind) (text binary : A) → k ≡ Ascii → by_kind k text binary ≡ text
text-kind k text binary e = rw e

pub not-text : (k : Kind) → (k ≡ Binary) ⊎ (k ≡ Binary32) → k ≡ Ascii → ⊥
not-text k h e = omega (arith, binary-arm {A = ℕ} k 0 1 h, text-kind {A = ℕ} k 0 1 e)

pub binary-kind : {A : Type 0} (k : Kind) (text binary : A) → (k ≡ Ascii → ⊥) → by_kind k text binary ≡ binary
binary-kind Ascii text binary h = absurd (h refl)
binary-kind Binary text binary h = refl
binary-kind Binary32 text binary h = refl

pub by-kind : {C : Type 0} (k : Kind) → (k ≡ Ascii → C) → ((k ≡ Ascii → ⊥) → C) → C
by-kind Ascii f g = f refl
by-kind Binary f g = g (λ e. let q : 1 ≡ 0 = ap kind_number e in absurd (omega arith))
by-kind Binary32 f g = g (λ e. let q : 2 ≡ 0 = ap kind_number e in absurd (omega arith))

pub kind-only : {R A : Type 0} (P : R → Type 0) (k : Kind) (text binary : Said R A) → RefusesOnly P text → RefusesOnly P binary → RefusesOnly P (by_kind k text binary)
kind-only P Ascii text binary p q = p
kind-only P Binary text binary p q = q
kind-only P Binary32 text binary p q = q
