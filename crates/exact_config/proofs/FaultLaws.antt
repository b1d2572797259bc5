-- The checks of fields, exactly: a field has no fault exactly when it is what it must be.
--     text-fine                       a text of least to most characters
--     index-fine                      the index of channel i
--     real-fine, frequency-fine       a real, whatever its sign; nothing or a real
--     above-fine, rate-fine           a real above zero; a rate: zero where there are no rates, else above zero
--     side-fine, state-fine           one of p, P, s and S; 0 or 1
-- Assumes nothing.
use mathlib.Core.Path.{◌≡◌, refl, ap, ◌∙◌}
use mathlib.Core.Logic.{◌↔◌, ◌⊎◌, inl, inr}
use mathlib.Core.List.{List, []}
use Prim.Native.Nat.{ℕ, zero, suc}
use native.Mathlib.Nat.{suc-ne-zero}
use native.Mathlib.Omega.{arith}
use borrow.Author.Tests.{eq-eqb, ne_eqb, eqb-true}
use lib.Dec.{eqb}
use lib.ListN.{length}
use Rattle.ground.specs.Quoted.{quoted}
use Rattle.ground.proofs.Cases.{on_test}
use Rattle.ground.proofs.Walk as walk
use Rattle.std.proofs.Common.{Err, None, Ok, Option, Result, Some}
use Rattle.reals.specs.declared.Sign.{Sign}
use Rattle.numerals.specs.declared.FieldError.{FieldError}
use Rattle.numerals.specs.declared.FieldError.TheVariants.{Form, Range}
use Rattle.reals.specs.declared.Sign.TheVariants.{Above, Below, Zero}
use Rattle.numerals.specs.Counts.{length_in, read_count}
use Rattle.numerals.proofs.CountLaws.{length-bounds, length-is}
use Rattle.fields.specs.Fields.{read_state, read_side}
use Rattle.reals.specs.Forms.{read_real}
use Rattle.line_fields.specs.Faults.{number_of_read, text_fault, index_is, index_fault, any_real, real_fault}
use Rattle.line_fields.specs.Faults.{frequency_fault, above_zero, above_fault, at_zero, zero_fault, rate_fault, side_fault, state_fault}
use Rattle.paper.specs.Fields.{TextField, CountField, RealField, AnyReal}
use Rattle.paper.specs.Lines.{rate_sign}
use Rattle.exact.proofs.CountLaws.{count-exactly}
use Rattle.exact.proofs.CharacterLaws.{side-exactly, state-exactly}
use Rattle.exact.proofs.RealLaws.{real-exactly}

pub text-fine : (least most : ℕ) (f : List ℕ) → text_fault least most f ≡ 0 ↔ TextField least most f
unfolding text_fault
text-fine least most f = (
  λ e.
      on_test (length_in least most f)
      (λ t. let b = length-bounds least most f t in record { long = b.0; short = b.1 })
      (λ t. absurd (suc-ne-zero 4 (rw t at e))),
  λ t. rw (length-is least most f t.long t.short),
)

-- 7 for another index, 5 for none
index-is : (i : ℕ) (k : Option ℕ) → index_is i k ≡ 0 → k ≡ Some i
index-is i (Some v) e = on_test (eqb v i) (λ t. ap Some (eqb-true v i t)) (λ t. absurd (suc-ne-zero 6 (rw t at e)))
index-is i None e = absurd (suc-ne-zero 4 e)

pub index-fine : (i : ℕ) (f : List ℕ) → index_fault i f ≡ 0 ↔ CountField 6 i f
unfolding index_fault
index-fine i f = (λ e. (count-exactly 6 i f).0 (index-is i (read_count 1 6 f) e), λ c. rw ((count-exactly 6 i f).1 c, eq-eqb i i refl))

-- a check of what real a field is
real-told : (check : Option Sign → ℕ) (r : Sign) → ((x : Option Sign) → check x ≡ 0 → x ≡ Some r) → check (Some r) ≡ 0 → (f : List ℕ) → check (read_real 1 32 f) ≡ 0 ↔ RealField r f
real-told check r only fine f = (λ e. (real-exactly r f).0 (only (read_real 1 32 f) e), λ w. ap check ((real-exactly r f).1 w) ∙ fine)

any-is : (x : Option Sign) → any_real x ≡ 0 → (r : Sign) × (x ≡ Some r)
any-is (Some r) e = (r, refl)
any-is None e = absurd (suc-ne-zero 4 e)

any-fine : (r : Sign) → any_real (Some r) ≡ 0
any-fine Below = refl
any-fine Zero = refl
any-fine Above = refl

pub real-fine : (f : List ℕ) → real_fault f ≡ 0 ↔ AnyReal f
unfolding real_fault
real-fine f = (
  λ e. let (r, q) = any-is (read_real 1 32 f) e in (r, (real-exactly r f).0 q),
  λ (r, w). ap any_real ((real-exactly r f).1 w) ∙ any-fine r,
)

frequency-from : (f : List ℕ) → (f ≡ []) ⊎ AnyReal f → frequency_fault f ≡ 0
unfolding frequency_fault
frequency-from f (inl e) = rw e
frequency-from f (inr a) = on_test (eqb (length f) 0) (λ t. rw t) (λ t. rw t ((real-fine f).1 a))

pub frequency-fine : (f : List ℕ) → frequency_fault f ≡ 0 ↔ ((f ≡ []) ⊎ AnyReal f)
unfolding frequency_fault
frequency-fine f = (
  λ e. on_test (eqb (length f) 0) (λ t. inl (walk.none f (omega (arith, eqb-true (length f) 0 t)))) (λ t. inr ((real-fine f).0 (rw t at e))),
  frequency-from f,
)

above-is : (r : Option Sign) → above_zero r ≡ 0 → r ≡ Some Above
above-is (Some Below) e = absurd (suc-ne-zero 5 e)
above-is (Some Zero) e = absurd (suc-ne-zero 5 e)
above-is (Some Above) e = refl
above-is None e = absurd (suc-ne-zero 4 e)

pub above-fine : (f : List ℕ) → above_fault f ≡ 0 ↔ RealField Above f
unfolding above_fault
above-fine f = real-told above_zero Above above-is refl f

zero_is : (r : Option Sign) → at_zero r ≡ 0 → r ≡ Some Zero
zero_is (Some Below) e = absurd (suc-ne-zero 5 e)
zero_is (Some Zero) e = refl
zero_is (Some Above) e = absurd (suc-ne-zero 5 e)
zero_is None e = absurd (suc-ne-zero 4 e)

pub rate-fine : (n : ℕ) (f : List ℕ) → rate_fault (eqb n 0) f ≡ 0 ↔ RealField (rate_sign n) f
unfolding zero_fault
rate-fine zero f = real-told at_zero Zero zero_is refl f
rate-fine (suc n) f = rw (ne_eqb (suc n) 0 (λ e. omega arith)) (above-fine f)

-- a field that has any value
value-is : (x : Result ℕ FieldError) → number_of_read x ≡ 0 → (v : ℕ) × (x ≡ Ok v)
value-is (Ok v) e = (v, refl)
value-is (Err Form) e = absurd (suc-ne-zero 4 e)
value-is (Err Range) e = absurd (suc-ne-zero 5 e)

value-fine : (x : Result ℕ FieldError) {P : Type 0} → ((v : ℕ) × (x ≡ Ok v)) ↔ P → number_of_read x ≡ 0 ↔ P
value-fine x h = (λ e. h.0 (value-is x e), λ p. ap number_of_read (h.1 p).1)

pub side-fine : (f : List ℕ) → side_fault f ≡ 0 ↔ ((f ≡ quoted "p") ⊎ ((f ≡ quoted "P") ⊎ ((f ≡ quoted "s") ⊎ (f ≡ quoted "S"))))
side-fine f = value-fine (read_side f) (side-exactly f)

pub state-fine : (f : List ℕ) → state_fault f ≡ 0 ↔ ((f ≡ quoted "0") ⊎ (f ≡ quoted "1"))
state-fine f = value-fine (read_state f) (state-exactly f)
