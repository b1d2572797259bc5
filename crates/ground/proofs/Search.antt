-- Laws of the search for the first place of which a test fails.
--     fail-step                 a turn of the search
--     fail-none, none-fail      where none is found, the test holds of each place; and the other way
--     fail-le                   what is found is one of the places, or their number
--     fail-first                what is found fails the test, and each place before it holds it
--     same-fail                 the search looks at no place but those that it is given
-- Assumes nothing.
use Rattle.std.specs.Prelude.{if◌then◌else◌}
use mathlib.Core.Path.{◌≡◌, ◌∙◌}
use mathlib.Core.Bool.{Bool, true, false}
use mathlib.Core.Logic.{⊎_elim}
use Prim.Native.Nat.{ℕ, zero, suc, ◌+◌, ◌-◌, ◌<◌, ◌≤◌}
use native.Mathlib.Nat.{add-zero}
use native.Mathlib.Omega.{arith}
use Rattle.ground.specs.Search.{fails_from, first_fail}
use Rattle.ground.proofs.Cases.{on_test, lt-or-ge}

module _ (test : ℕ → Bool) where
  pub fail-step : (i n : ℕ) → i < n → fails_from test i (n - i) ≡ (if test i then fails_from test (i + 1) (n - (i + 1)) else i)
  fail-step i n h = let e : n - i ≡ suc (n - (i + 1)) = omega arith in rw e

  none_from : (i m : ℕ) → fails_from test i m ≡ i + m → (j : ℕ) → j < m → test (i + j) ≡ true
  none_from i zero e j h = absurd (omega arith)
  none_from i (suc m) e zero h =
      on_test (test i) (λ t. rw add-zero t) (λ t. absurd (let q : i ≡ i + suc m = rw t at e in omega arith))
  none_from i (suc m) e (suc j) h =
      let s : i + suc j ≡ i + 1 + j = omega arith in
      on_test (test i)
      (λ t. let q : fails_from test (i + 1) m ≡ i + suc m = rw t at e in rw s (none_from (i + 1) m (omega arith) j (omega arith)))
      (λ t. absurd (let q : i ≡ i + suc m = rw t at e in omega arith))

  pub fail-none : (n : ℕ) → first_fail test n ≡ n → (i : ℕ) → i < n → test i ≡ true
  fail-none n e i h =
      let s : 0 + i ≡ i = omega arith in
      rw s at (none_from 0 n (omega arith) i h)

  all_from : (i m : ℕ) → ((j : ℕ) → j < i + m → test j ≡ true) → fails_from test i m ≡ i + m
  all_from i zero h = rw add-zero
  all_from i (suc m) h =
      rw (h i (omega arith)) (all_from (i + 1) m (λ j l. h j (omega arith)) ∙ omega arith)

  pub none-fail : (n : ℕ) → ((i : ℕ) → i < n → test i ≡ true) → first_fail test n ≡ n
  none-fail n h = all_from 0 n (λ j l. h j (omega arith)) ∙ omega arith

  from_le : (i m : ℕ) → fails_from test i m ≤ i + m
  from_le i zero = omega arith
  from_le i (suc m) = on_test (test i) (λ t. rw t (omega (arith, from_le (i + 1) m))) (λ t. rw t (omega arith))

  pub fail-le : (n : ℕ) → first_fail test n ≤ n
  fail-le n = omega (arith, from_le 0 n)

  first-from : (i m : ℕ) → fails_from test i m < i + m
      → ((j : ℕ) → i ≤ j → j < fails_from test i m → test j ≡ true) × (test (fails_from test i m) ≡ false)
  first-from i zero h = absurd (omega arith)
  first-from i (suc m) h =
      on_test (test i)
      (λ t.
      let n : fails_from test (i + 1) m < i + suc m = rw t at h in
      let f = first-from (i + 1) m (omega arith) in
      rw t (λ j q r. ⊎_elim (λ (w : i < j). f.0 j (omega arith) r) (λ (w : j ≤ i). let e : j ≡ i = omega arith in rw e t) (lt-or-ge i j), f.1))
      (λ t. rw t (λ j q r. absurd (omega arith), t))

  pub fail-first : (n : ℕ) → first_fail test n < n → ((j : ℕ) → j < first_fail test n → test j ≡ true) × (test (first_fail test n) ≡ false)
  fail-first n h = let f = first-from 0 n (omega arith) in (λ j q. f.0 j (omega arith) q, f.1)

module _ (f g : ℕ → Bool) where
  same_from : (i m : ℕ) → ((j : ℕ) → j < i + m → f j ≡ g j) → fails_from f i m ≡ fails_from g i m
  same_from i zero h = cc
  same_from i (suc m) h = rw (h i (omega arith), same_from (i + 1) m (λ j q. h j (omega arith)))

  pub same-fail : (n : ℕ) → ((j : ℕ) → j < n → f j ≡ g j) → first_fail f n ≡ first_fail g n
  same-fail n h = same_from 0 n (λ j q. h j (omega arith))
