-- Laws of dates.
--     date-bounds                       what a valid date is, as orders
--     month-between                     a month has 28 to 31 days
--     months-at-most, years-at-most     so many months have at most 31 days each, and years 366
--     months-next, years-next           the days up to the end of a month, and of a year
--     day-size                          a valid date's number is a size below 4,000,000
--     next-number                       the day after has the next number
--     next-valid                        the day after is valid, up to the year 9999
--     read-date-valid                   a date that is read is valid
-- Assumes nothing.
use Rattle.std.specs.Prelude.{if◌then◌else◌}
use mathlib.Core.Path.{◌≡◌, refl, sym, ap, ◌∙◌}
use mathlib.Core.Bool.{true, ◌&&◌}
use mathlib.Core.List.{List}
use Prim.Native.Nat.{ℕ, zero, suc, ◌+◌, ◌-◌, ◌*◌, ◌/◌, ◌%◌, ◌≤◌, ◌<◌}
use native.Mathlib.Nat.{zero-mul, suc-mul, div-eq_of_lt-le, div-add-mod', div-le_self, mod-lt}
use native.Mathlib.Numerals.{add-one}
use native.Mathlib.Omega.{arith}
use borrow.Author.Tests.{eq-eqb, eqb-true, eqb-false, ltb-true, ltb-false}
use lib.Dec.{eqb, ltb, lit<}
use lib.IntN.{pos, ◌+ℤ◌}
use Rattle.ground.proofs.Cases.{on_test, clash}
use Rattle.ground.proofs.Every.{and_split}
use Rattle.clock.specs.declared.Date.{Date}
use Rattle.std.proofs.Common.{Ok, Some}
use Rattle.patterns.specs.Patterns.{between, fits_pattern}
use Rattle.clock.specs.Dates.{leap_year, short_month, month_days, valid_date, date_pattern, date_of, is_zero_date, read_date, days_of_years, days_of_months, day_number}
use Rattle.clock.specs.Inner.{next_day}
use Rattle.patterns.proofs.PatternLaws.{between-bounds, between_is}

pub date-bounds : (x : Date) → valid_date x ≡ true
    → (1900 ≤ x.year) × (x.year ≤ 9999) × (1 ≤ x.month) × (x.month ≤ 12) × (1 ≤ x.day) × (x.day ≤ month_days x.year x.month)
unfolding valid_date
date-bounds x e =
    let s = and_split (between 1900 9999 x.year && between 1 12 x.month) _ e in
    let t = and_split (between 1900 9999 x.year) (between 1 12 x.month) s.0 in
    let y = between-bounds 1900 9999 x.year t.0 in
    let m = between-bounds 1 12 x.month t.1 in
    let d = between-bounds 1 (month_days x.year x.month) x.day s.1 in
    (y.0, y.1, m.0, m.1, d.0, d.1)

date-is : (x : Date) → 1900 ≤ x.year → x.year ≤ 9999 → 1 ≤ x.month → x.month ≤ 12 → 1 ≤ x.day → x.day ≤ month_days x.year x.month
    → valid_date x ≡ true
unfolding valid_date
date-is x h i j k m n =
    rw (between_is 1900 9999 x.year h i, between_is 1 12 x.month j k, between_is 1 (month_days x.year x.month) x.day m n)

pub month-between : (y m : ℕ) → (28 ≤ month_days y m) × (month_days y m ≤ 31)
unfolding month_days
month-between y m =
    on_test (eqb m 2)
    (λ e. on_test (leap_year y) (λ f. rw (e, f) (omega arith)) (λ f. rw (e, f) (omega arith)))
    (λ e. on_test (short_month m) (λ f. rw (e, f) (omega arith)) (λ f. rw (e, f) (omega arith)))

pub months-at-most : (y n : ℕ) → days_of_months y n ≤ 31 * n
unfolding days_of_months
months-at-most y zero = omega arith
months-at-most y (suc n) = omega (arith, months-at-most y n, month-between y (suc n))

pub months-next : (y m : ℕ) → 1 ≤ m → days_of_months y m ≡ days_of_months y (m - 1) + month_days y m
unfolding days_of_months
months-next y zero h = absurd (omega arith)
months-next y (suc n) h = let e : suc n - 1 ≡ n = omega arith in rw e

-- a year has 365 days, and one more where February has 29
year-days : (y : ℕ) → days_of_months y 12 ≡ (if leap_year y then 366 else 365)
unfolding days_of_months month_days short_month
year-days y = on_test (leap_year y) (λ e. rw e) (λ e. rw e)

-- a quotient is one more where nothing is left over
quotient-over : (k n q : ℕ) → 0 < k → q * k ≡ n + 1 → q ≡ n / k + 1
quotient-over k n zero h e = absurd (omega (arith, zero-mul k))
quotient-over k n (suc p) h e =
    let f : p * k + k ≡ n + 1 = rw suc-mul at e in
    let g : (p + 1) * k ≡ p * k + k = rw (add-one, suc-mul) in
    omega (arith, div-eq_of_lt-le {k = p} k {m = n} (omega arith) (omega arith))

stay : (k n q r : ℕ) → r < k → (r ≡ 0 → ⊥) → q * k + r ≡ n + 1 → q ≡ n / k
stay k n q r h z e =
    let g : (q + 1) * k ≡ q * k + k = rw (add-one, suc-mul) in
    sym (div-eq_of_lt-le {k = q} k {m = n} (omega arith) (omega arith))

quotient-next : (k n : ℕ) → 0 < k → (n + 1) / k ≡ n / k + (if eqb ((n + 1) % k) 0 then 1 else 0)
quotient-next k n h =
    let e = div-add-mod' (n + 1) k in
    on_test (eqb ((n + 1) % k) 0)
    (λ t. rw t (quotient-over k n ((n + 1) / k) h (omega (arith, eqb-true ((n + 1) % k) 0 t))))
    (λ t. rw t (stay k n ((n + 1) / k) ((n + 1) % k) (mod-lt (n + 1) h) (eqb-false ((n + 1) % k) 0 t) e ∙ omega arith))

-- what goes by 400 goes by 100, and what goes by 100 by 4
by-100 : (m : ℕ) → m % 400 ≡ 0 → m % 100 ≡ 0
by-100 m h = omega arith

by_4 : (m : ℕ) → m % 100 ≡ 0 → m % 4 ≡ 0
by_4 m h = omega arith

pub years-next : (n : ℕ) → days_of_years (n + 1) ≡ days_of_years n + days_of_months (n + 1) 12
unfolding days_of_years leap_year
years-next n =
    let m = n + 1 in
    let h = div-le_self n 100 in
    rw (year-days m, quotient-next 4 n (lit< tt), quotient-next 100 n (lit< tt), quotient-next 400 n (lit< tt))
    (on_test (eqb (m % 400) 0)
    (λ a.
    let b = by-100 m (eqb-true (m % 400) 0 a) in
    rw (a, eq-eqb (m % 100) 0 b, eq-eqb (m % 4) 0 (by_4 m b)) (omega arith))
    (λ a. on_test (eqb (m % 100) 0)
    (λ b. rw (a, b, eq-eqb (m % 4) 0 (by_4 m (eqb-true (m % 100) 0 b))) (omega arith))
    (λ b. on_test (eqb (m % 4) 0) (λ q. rw (a, b, q) (omega arith)) (λ q. rw (a, b, q) (omega arith)))))

pub years-at-most : (n : ℕ) → days_of_years n ≤ 366 * n
unfolding days_of_years
years-at-most n = omega arith

pub day-size : (x : Date) → valid_date x ≡ true → (n : ℕ) × (day_number x ≡ pos n) × (n < 4000000)
unfolding day_number
day-size x e =
    let b = date-bounds x e in
    let y = years-at-most (x.year - 1) in
    let m = months-at-most x.year (x.month - 1) in
    let d = month-between x.year x.month in
    (_, refl, omega arith)

pub next-number : (x : Date) → valid_date x ≡ true → day_number (next_day x) ≡ day_number x +ℤ pos 1
unfolding day_number next_day days_of_months
next-number x e =
    let y = x.year in
    let m = x.month in
    let b = date-bounds x e in
    let n = months-next y m b.2 in
    on_test (ltb x.day (month_days y m))
    (λ t. rw t (ap pos (omega arith)))
    (λ t.
    let l = ltb-false x.day (month_days y m) t in
    on_test (ltb m 12)
    (λ u. let k : m + 1 - 1 ≡ m = omega arith in rw (t, u, k) (ap pos (omega arith)))
    (λ u.
    let k : y + 1 - 1 ≡ y = omega arith in
    let j : y - 1 + 1 ≡ y = omega arith in
    let v : m ≡ 12 = omega (arith, ltb-false m 12 u) in
    let w : days_of_months y m ≡ days_of_months y 12 = rw v in
    let z : days_of_months (y + 1) (1 - 1) ≡ 0 = refl in
    let f : days_of_years y ≡ days_of_years (y - 1) + days_of_months y 12 = rw j at (years-next (y - 1)) in
    rw (t, u, k, z) (ap pos (omega arith))))

pub next-valid : (x : Date) → valid_date x ≡ true → (next_day x).year ≤ 9999 → valid_date (next_day x) ≡ true
unfolding next_day
next-valid x e h =
    let y = x.year in
    let m = x.month in
    let b = date-bounds x e in
    on_test (ltb x.day (month_days y m))
    (λ t. rw t (date-is _ b.0 b.1 b.2 b.3 (omega arith) (omega (arith, ltb-true x.day (month_days y m) t))))
    (λ t. on_test (ltb m 12)
    (λ u. rw (t, u) (date-is _ b.0 b.1 (omega arith) (omega (arith, ltb-true m 12 u)) (omega arith) (omega (arith, month-between y (m + 1)))))
    (λ u.
    let i : y + 1 ≤ 9999 = rw (t, u) at h in
    rw (t, u) (date-is _ (omega arith) i (omega arith) (omega arith) (omega arith) (omega (arith, month-between (y + 1) 1)))))

pub read-date-valid : (l : List ℕ) (x : Date) → read_date l ≡ Ok (Some x) → valid_date x ≡ true
unfolding read_date
read-date-valid l x =
    on_test (fits_pattern date_pattern l)
    (λ f. on_test (is_zero_date (date_of l))
    (λ z. rw (f, z) (λ e. clash (cc)))
    (λ z. on_test (valid_date (date_of l))
    (λ v. rw (f, z, v) (λ e. let q : date_of l ≡ x = cc in rw (← q) v))
    (λ v. rw (f, z, v) (λ e. clash (cc)))))
    (λ f. rw f (λ e. clash (cc)))
