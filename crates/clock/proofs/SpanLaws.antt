-- Laws of differences, and of the pre-trigger time.
--     times-over             a product of a sum
--     apart_fits             a difference of two sizes fits
--     less_one               a difference less one
--     second-size            a second's number is a size below 2 ^ 40
--     days-fit, second_fits, seconds-fit, less-fit     what the code computes with signed numbers fits
--     pre-exact              seconds and nanoseconds are the difference of the two times
--     pre-below              the nanoseconds are less than a second
-- Assumes nothing.
use mathlib.Core.Path.{◌≡◌, sym, ap, ◌∙◌}
use mathlib.Core.Bool.{true}
use Prim.Native.Nat.{ℕ, zero, suc, ◌+◌, ◌-◌, ◌*◌, ◌^◌, ◌≤◌, ◌<◌}
use native.Mathlib.Omega.{arith}
use borrow.Author.Tests.{leb-true, leb-false}
use lib.Dec.{ltb, leb}
use lib.IntN.{ℤ, pos, neg_ℤ, sub_ℕ, ◌+ℤ◌, ◌-ℤ◌, ◌*ℤ◌, ℤ_ind, pos-+ℤ-pos, neg_ℤ-+ℤ}
use lib.IntN.{+ℤ_idl, +ℤ_idr, +ℤ_assoc, +ℤ_comm, +ℤ_one, -ℤ_one, +ℤ-suc_ℤ, +ℤ-pred_ℤ, suc_ℤ-*ℤ, pred_ℤ-*ℤ, zero-*ℤ, +ℤ_invl, +ℤ-neg_ℤ_cancel, -ℤ-+ℤ_cancel}
use mir.Syntax.{w64}
use mir.Val.{SFits}
use Rattle.ground.proofs.Cases.{on_test}
use Rattle.clock.specs.declared.Date.{Date}
use Rattle.clock.specs.declared.Time.{Time}
use Rattle.clock.specs.Dates.{valid_date, day_number}
use Rattle.clock.specs.Times.{valid_time, second_of_day}
use Rattle.clock.specs.Spans.{second_number, span_of, pre_trigger}
use Rattle.clock.specs.Inner.{in_nanoseconds}
use Rattle.clock.proofs.DateLaws.{day-size}
use Rattle.clock.proofs.TimeLaws.{second-at-most, time-bounds}

module _ (a k : ℤ) where
  one_more : (b : ℤ) → (a +ℤ b) *ℤ k ≡ a *ℤ k +ℤ b *ℤ k → (a +ℤ (b +ℤ pos 1)) *ℤ k ≡ a *ℤ k +ℤ (b +ℤ pos 1) *ℤ k
  one_more b h = rw (+ℤ_one b, +ℤ-suc_ℤ a b, suc_ℤ-*ℤ (a +ℤ b) k, suc_ℤ-*ℤ b k, h) (+ℤ_assoc (a *ℤ k) (b *ℤ k) k)

  one_less : (b : ℤ) → (a +ℤ b) *ℤ k ≡ a *ℤ k +ℤ b *ℤ k → (a +ℤ (b -ℤ pos 1)) *ℤ k ≡ a *ℤ k +ℤ (b -ℤ pos 1) *ℤ k
  one_less b h = rw (-ℤ_one b, +ℤ-pred_ℤ a b, pred_ℤ-*ℤ (a +ℤ b) k, pred_ℤ-*ℤ b k, h) (+ℤ_assoc (a *ℤ k) (b *ℤ k) (neg_ℤ k))

  pub times-over : (b : ℤ) → (a +ℤ b) *ℤ k ≡ a *ℤ k +ℤ b *ℤ k
  times-over =
      ℤ_ind (λ b. (a +ℤ b) *ℤ k ≡ a *ℤ k +ℤ b *ℤ k)
      (rw (+ℤ_idr, zero-*ℤ, +ℤ_idr))
      (λ n h. one_more (pos n) h)
      (λ n h. one_less (neg_ℤ (pos n)) h)

pub apart_fits : (a b : ℕ) → a < 2 ^ 62 → b < 2 ^ 62 → SFits w64 (pos b -ℤ pos a)
apart_fits zero b h g = record { sfits = omega arith }
apart_fits (suc a) b h g =
    on_test (ltb b (suc a))
    (λ e. rw (sub_ℕ, e) (record { sfits = omega arith }))
    (λ e. rw (sub_ℕ, e) (record { sfits = omega arith }))

pub less_one : (a b : ℕ) → pos b -ℤ pos a -ℤ pos 1 ≡ pos b -ℤ pos (a + 1)
less_one a b = rw (+ℤ_assoc, ← neg_ℤ-+ℤ)

pub second-size : (x : Date) (t : Time) → valid_date x ≡ true → valid_time t ≡ true → (n : ℕ) × (second_number x t ≡ pos n) × (n < 2 ^ 40)
unfolding second_number
second-size x t h k =
    let s = day-size x h in
    (s.0 * 86400 + second_of_day t, rw s.1, omega (arith, second-at-most t k))

pub days-fit : (x : Date) → valid_date x ≡ true → SFits w64 (day_number x *ℤ pos 86400)
days-fit x h = let s = day-size x h in rw s.1 (record { sfits = omega arith })

module _ (x : Date) (t : Time) (h : valid_date x ≡ true) (k : valid_time t ≡ true) where
  pub second_fits : SFits w64 (second_number x t)
  second_fits = let s = second-size x t h k in rw s.1 (record { sfits = omega arith })

  module _ (y : Date) (u : Time) (i : valid_date y ≡ true) (j : valid_time u ≡ true) where
    pub seconds-fit : SFits w64 (second_number y u -ℤ second_number x t)
    seconds-fit =
        let a = second-size x t h k in
        let b = second-size y u i j in
        rw (a.1, b.1) (apart_fits a.0 b.0 (omega arith) (omega arith))

    pub less-fit : SFits w64 (second_number y u -ℤ second_number x t -ℤ pos 1)
    less-fit =
        let a = second-size x t h k in
        let b = second-size y u i j in
        rw (a.1, b.1, less_one a.0 b.0) (apart_fits (a.0 + 1) b.0 (omega arith) (omega arith))

pos-less : (m n : ℕ) → n ≤ m → pos (m - n) ≡ pos m -ℤ pos n
pos-less m n h =
    let e : m - n + n ≡ m = omega arith in
    sym (+ℤ-neg_ℤ_cancel (pos (m - n)) (pos n)) ∙ ap (λ (k : ℕ). pos k -ℤ pos n) e

-- g is borrowed: it comes back in the smaller part
borrowed : (g n m : ℕ) → n ≤ m + g → neg_ℤ (pos g) +ℤ pos (m + g - n) ≡ pos m -ℤ pos n
borrowed g n m h =
    let e : m + g ≡ g + m = omega arith in
    rw (pos-less (m + g) n h, e, ← pos-+ℤ-pos g m, +ℤ_assoc (pos g) (pos m) (neg_ℤ (pos n)), ← +ℤ_assoc (neg_ℤ (pos g)) (pos g) (pos m -ℤ pos n), +ℤ_invl (pos g))
    (+ℤ_idl (pos m -ℤ pos n))

span-exact : (z : ℤ) (n m : ℕ) → n < 1_000_000_000 → in_nanoseconds (span_of z n m).seconds (span_of z n m).nanoseconds ≡ in_nanoseconds z m -ℤ pos n
unfolding in_nanoseconds span_of
span-exact z n m h =
    let g = pos 1_000_000_000 in
    on_test (leb n m)
    (λ e. rw (e, pos-less m n (leb-true n m e)) (sym (+ℤ_assoc (z *ℤ g) (pos m) (neg_ℤ (pos n)))))
    (λ e.
    rw (e, times-over z g (neg_ℤ (pos 1)), +ℤ_assoc (z *ℤ g) (neg_ℤ g) (pos (m + 1_000_000_000 - n)), borrowed 1_000_000_000 n m (omega arith))
    (sym (+ℤ_assoc (z *ℤ g) (pos m) (neg_ℤ (pos n)))))

-- a difference of seconds, put back
put_back : (f t : ℤ) (n m : ℕ) → in_nanoseconds (t -ℤ f) m -ℤ pos n +ℤ in_nanoseconds f n ≡ in_nanoseconds t m
unfolding in_nanoseconds
put_back f t n m =
    let g = pos 1_000_000_000 in
    let z = (t -ℤ f) *ℤ g in
    let h = f *ℤ g in
    rw (+ℤ_comm h (pos n), ← +ℤ_assoc (z +ℤ pos m -ℤ pos n) (pos n) h, -ℤ-+ℤ_cancel (z +ℤ pos m) (pos n))
    (rw (+ℤ_assoc z (pos m) h, +ℤ_comm (pos m) h, ← +ℤ_assoc z h (pos m), ← times-over (t -ℤ f) g f, -ℤ-+ℤ_cancel t f))

pub pre-exact : (a : Date) (s : Time) (b : Date) (t : Time) → valid_time s ≡ true
    → in_nanoseconds (pre_trigger a s b t).seconds (pre_trigger a s b t).nanoseconds
    ≡ in_nanoseconds (second_number b t) t.nanosecond -ℤ in_nanoseconds (second_number a s) s.nanosecond
unfolding pre_trigger
pre-exact a s b t h =
    let f = second_number a s in
    let l = second_number b t in
    let n = s.nanosecond in
    let m = t.nanosecond in
    rw (span-exact (l -ℤ f) n m (time-bounds s h).3)
    (sym (+ℤ-neg_ℤ_cancel (in_nanoseconds (l -ℤ f) m -ℤ pos n) (in_nanoseconds f n)) ∙ rw (put_back f l n m))

pub pre-below : (a : Date) (s : Time) (b : Date) (t : Time) → valid_time s ≡ true → valid_time t ≡ true → (pre_trigger a s b t).nanoseconds < 1_000_000_000
unfolding pre_trigger span_of
pre-below a s b t h k =
    let i = time-bounds s h in
    let j = time-bounds t k in
    on_test (leb s.nanosecond t.nanosecond)
    (λ e. rw e (omega arith))
    (λ e. rw e (omega (arith, leb-false s.nanosecond t.nanosecond e)))
