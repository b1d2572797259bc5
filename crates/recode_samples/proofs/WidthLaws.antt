-- Laws of the widths of the binary kinds.
--     wider                      what widths say of kinds
--     widened-by, narrowed-by    samples by their widths
-- Assumes nothing.
use mathlib.Core.Path.{◌≡◌, refl, ap}
use mathlib.Core.List.{List}
use Prim.Native.Nat.{ℕ, ◌<◌}
use native.Mathlib.Omega.{arith}
use Rattle.model.specs.declared.Kind.{Kind}
use Rattle.model.specs.declared.Kind.TheVariants.{Ascii, Binary, Binary32}
use Rattle.model.specs.Kinds.{width_of}
use Rattle.model.proofs.KindLaws.{width-le}
use Rattle.recode_samples.specs.Inner.{recoded, recoded_all}

two-widths : {C : Type 0} (k : Kind) → (k ≡ Binary → C) → (width_of k ≡ 4 → C) → C
two-widths Ascii f g = g refl
two-widths Binary f g = f refl
two-widths Binary32 f g = g refl

pub wider : (k m : Kind) → width_of k < width_of m → (k ≡ Binary) × (width_of m ≡ 4)
wider k m h =
    two-widths k
    (λ e. (e, two-widths m (λ f. absurd (omega (arith, ap width_of e, ap width_of f))) (λ f. f)))
    (λ e. absurd (omega (arith, width-le m)))

pub widened-by : (k m : Kind) (a : ℕ) (b : List ℕ) → width_of k < width_of m → recoded_all k m a b ≡ recoded_all Binary Binary32 a b
unfolding recoded_all recoded
widened-by k m a b h = let e = wider k m h in rw (e.0, e.1)

pub narrowed-by : (k m : Kind) (a : ℕ) (b : List ℕ) → width_of m < width_of k → recoded_all k m a b ≡ recoded_all Binary32 Binary a b
unfolding recoded_all recoded
narrowed-by k m a b h = let e = wider m k h in rw (e.0, e.1)
