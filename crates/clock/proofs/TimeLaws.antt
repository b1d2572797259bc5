-- Laws of times of day.
--     time-bounds            what a valid time of day is, as orders
--     form-length            what has the form of a time is 15 to 18 characters long
--     fraction-turn          one place more of a fraction that is scaled to 9 digits
--     second-at-most         the second of a day is below 86,400
--     read-time-valid        a time of day that is read is valid
-- Assumes nothing.
use mathlib.Core.Path.{◌≡◌}
use mathlib.Core.Bool.{true, ◌&&◌}
use mathlib.Core.List.{List}
use Prim.Native.Nat.{ℕ, suc, ◌+◌, ◌-◌, ◌*◌, ◌^◌, ◌≤◌, ◌<◌}
use native.Mathlib.Nat.{pow-succ', mul_assoc, mul_comm}
use native.Mathlib.Omega.{arith}
use borrow.Author.Tests.{ltb-true}
use lib.Dec.{ltb}
use lib.ListN.{length, take}
use Rattle.ground.proofs.Cases.{clash}
use Rattle.ground.proofs.Every.{and_split}
use Rattle.numerals.specs.Counts.{length_in}
use Rattle.numerals.proofs.CountLaws.{length-bounds}
use Rattle.clock.specs.declared.Time.{Time}
use Rattle.std.proofs.Common.{Err, Ok}
use Rattle.numerals.specs.declared.FieldError.TheVariants.{Form, Range}
use Rattle.patterns.specs.Patterns.{fits_pattern}
use Rattle.clock.specs.Times.{valid_time, time_pattern, time_form, time_of, read_time, second_of_day}
use Rattle.patterns.proofs.PatternLaws.{chosen}

pub time-bounds : (x : Time) → valid_time x ≡ true → (x.hour < 24) × (x.minute < 60) × (x.second < 60) × (x.nanosecond < 1_000_000_000)
unfolding valid_time
time-bounds x e =
    let h = ltb x.hour 24 in
    let m = ltb x.minute 60 in
    let s = ltb x.second 60 in
    let a = and_split (h && m && s) _ e in
    let b = and_split (h && m) s a.0 in
    let c = and_split h m b.0 in
    (ltb-true _ _ c.0, ltb-true _ _ c.1, ltb-true _ _ b.1, ltb-true _ _ a.1)

pub form-length : (l : List ℕ) → time_form l ≡ true → (15 ≤ length l) × (length l ≤ 18)
unfolding time_form
form-length l e = length-bounds 15 18 l (and_split (length_in 15 18 l) (fits_pattern (take (length l) time_pattern) l) e).0

pub fraction-turn : (n k : ℕ) → k < 18 → 10 * n * 10 ^ (18 - (k + 1)) ≡ n * 10 ^ (18 - k)
fraction-turn n k h =
    let e : 18 - k ≡ suc (18 - (k + 1)) = omega arith in
    rw (e, pow-succ', mul_comm 10 n, mul_assoc)

pub second-at-most : (x : Time) → valid_time x ≡ true → second_of_day x < 86400
unfolding second_of_day
second-at-most x e = omega (arith, time-bounds x e)

pub read-time-valid : (l : List ℕ) (x : Time) → read_time l ≡ Ok x → valid_time x ≡ true
unfolding read_time
read-time-valid l x e =
    let s = chosen (time_form l) (valid_time (time_of l)) (Ok (time_of l)) (Err Range) (Err Form) (Ok x) (λ f. clash (cc)) (λ f. clash (cc)) e in
    let q : time_of l ≡ x = cc in
    rw (← q) s.0
