-- Laws of the numbers of refusals.
--     number-back                       the reason of a number has that number
--     Tabled                            one of the 17 reasons in the table of numbers, so not `Other`
--     tabled-number                     its number is from 1 to 17, and it is the reason of that number
--     reason-once                       no two of them have the same number
--     numbered-tabled                   the reason of a number from 1 to 17 is one of them
--     RefusalTabled, RefusesTabled      a refusal has such a reason, and each that a rule gives
--     sample-tabled, status-tabled      so has the one for a channel that no row has
-- Assumes nothing.
use Rattle.std.proofs.Common.{◌≡◌, ◌≤◌, ◌+◌, ◌-◌, ℕ, Bool, true, false, sym, refl, ap, ◌∙◌, arith}
use borrow.Author.Tests.{eqb-true}
use lib.Dec.{lit≤, eqb, ltb}
use Rattle.ground.specs.Said.{Said, answer_said}
use Rattle.ground.specs.Tables.{tab, every}
use Rattle.ground.proofs.Cases.{on_test, clash}
use Rattle.ground.proofs.Every.{every-at}
use Rattle.ground.proofs.RefusalLaws.{RefusesOnly}
use Rattle.ground.proofs.Tables.{get_or-tab}
use Rattle.model.specs.declared.Reason.{Reason}
use Rattle.model.specs.declared.Reason.TheVariants.{TooLong, EndsEarly, BadByte, FieldCount, Form, NotAllowed, Disagrees, Year, BytesAfter, Sizes, FileLength, RowNumber, Padding, BadText, NoSuchRow, DoesNotFit, NoRoom, Other}
use Rattle.model.specs.declared.Refusal.{Refusal}
use Rattle.model.specs.declared.Row.{Row}
use Rattle.model.specs.Refusals.{reason_number, numbered}
use Rattle.model.specs.Rows.{sample_at, status_at}

pub number-back : (n : ℕ) → reason_number (numbered n) ≡ n
number-back n =
    on_test (eqb n 1) (λ t1. rw t1 (sym (eqb-true n 1 t1))) (λ t1.
    on_test (eqb n 2) (λ t2. rw (t1, t2) (sym (eqb-true n 2 t2))) (λ t2.
    on_test (eqb n 3) (λ t3. rw (t1, t2, t3) (sym (eqb-true n 3 t3))) (λ t3.
    on_test (eqb n 4) (λ t4. rw (t1, t2, t3, t4) (sym (eqb-true n 4 t4))) (λ t4.
    on_test (eqb n 5) (λ t5. rw (t1, t2, t3, t4, t5) (sym (eqb-true n 5 t5))) (λ t5.
    on_test (eqb n 6) (λ t6. rw (t1, t2, t3, t4, t5, t6) (sym (eqb-true n 6 t6))) (λ t6.
    on_test (eqb n 7) (λ t7. rw (t1, t2, t3, t4, t5, t6, t7) (sym (eqb-true n 7 t7))) (λ t7.
    on_test (eqb n 8) (λ t8. rw (t1, t2, t3, t4, t5, t6, t7, t8) (sym (eqb-true n 8 t8))) (λ t8.
    on_test (eqb n 9) (λ t9. rw (t1, t2, t3, t4, t5, t6, t7, t8, t9) (sym (eqb-true n 9 t9))) (λ t9.
    on_test (eqb n 10) (λ t10. rw (t1, t2, t3, t4, t5, t6, t7, t8, t9, t10) (sym (eqb-true n 10 t10))) (λ t10.
    on_test (eqb n 11) (λ t11. rw (t1, t2, t3, t4, t5, t6, t7, t8, t9, t10, t11) (sym (eqb-true n 11 t11))) (λ t11.
    on_test (eqb n 12) (λ t12. rw (t1, t2, t3, t4, t5, t6, t7, t8, t9, t10, t11, t12) (sym (eqb-true n 12 t12))) (λ t12.
    on_test (eqb n 13) (λ t13. rw (t1, t2, t3, t4, t5, t6, t7, t8, t9, t10, t11, t12, t13) (sym (eqb-true n 13 t13))) (λ t13.
    on_test (eqb n 14) (λ t14. rw (t1, t2, t3, t4, t5, t6, t7, t8, t9, t10, t11, t12, t13, t14) (sym (eqb-true n 14 t14))) (λ t14.
    on_test (eqb n 15) (λ t15. rw (t1, t2, t3, t4, t5, t6, t7, t8, t9, t10, t11, t12, t13, t14, t15) (sym (eqb-true n 15 t15))) (λ t15.
    on_test (eqb n 16) (λ t16. rw (t1, t2, t3, t4, t5, t6, t7, t8, t9, t10, t11, t12, t13, t14, t15, t16) (sym (eqb-true n 16 t16))) (λ t16.
    on_test (eqb n 17) (λ t17. rw (t1, t2, t3, t4, t5, t6, t7, t8, t9, t10, t11, t12, t13, t14, t15, t16, t17) (sym (eqb-true n 17 t17))) (λ t17.
    rw (t1, t2, t3, t4, t5, t6, t7, t8, t9, t10, t11, t12, t13, t14, t15, t16, t17) refl)))))))))))))))))

-- one of the 17 reasons in the table of numbers
abbrev pub Tabled : Reason → Type 0
Tabled (Other n) = ⊥
Tabled r = Unit {0}

pub tabled-number : (r : Reason) → Tabled r → (1 ≤ reason_number r) × (reason_number r ≤ 17) × (numbered (reason_number r) ≡ r)
tabled-number TooLong h = (lit≤ tt, lit≤ tt, refl)
tabled-number EndsEarly h = (lit≤ tt, lit≤ tt, refl)
tabled-number BadByte h = (lit≤ tt, lit≤ tt, refl)
tabled-number FieldCount h = (lit≤ tt, lit≤ tt, refl)
tabled-number Form h = (lit≤ tt, lit≤ tt, refl)
tabled-number NotAllowed h = (lit≤ tt, lit≤ tt, refl)
tabled-number Disagrees h = (lit≤ tt, lit≤ tt, refl)
tabled-number Year h = (lit≤ tt, lit≤ tt, refl)
tabled-number BytesAfter h = (lit≤ tt, lit≤ tt, refl)
tabled-number Sizes h = (lit≤ tt, lit≤ tt, refl)
tabled-number FileLength h = (lit≤ tt, lit≤ tt, refl)
tabled-number RowNumber h = (lit≤ tt, lit≤ tt, refl)
tabled-number Padding h = (lit≤ tt, lit≤ tt, refl)
tabled-number BadText h = (lit≤ tt, lit≤ tt, refl)
tabled-number NoSuchRow h = (lit≤ tt, lit≤ tt, refl)
tabled-number DoesNotFit h = (lit≤ tt, lit≤ tt, refl)
tabled-number NoRoom h = (lit≤ tt, lit≤ tt, refl)
tabled-number (Other n) h = absurd h

pub reason-once : (p q : Reason) → Tabled p → Tabled q → reason_number p ≡ reason_number q → p ≡ q
reason-once p q a b e = sym (tabled-number p a).2 ∙ ap numbered e ∙ (tabled-number q b).2

-- the same as a test
abbrev is_tabled : Reason → Bool
is_tabled (Other n) = false
is_tabled r = true

test-tabled : (r : Reason) → is_tabled r ≡ true → Tabled r
test-tabled (Other n) e = clash (cc)
test-tabled r e = tt

-- each of the numbers from 1 to 17 has such a reason
all_tabled : every (λ i. is_tabled (numbered (i + 1))) (tab (λ i. i) 17) ≡ true
all_tabled = refl

pub numbered-tabled : (n : ℕ) → 1 ≤ n → n ≤ 17 → Tabled (numbered n)
numbered-tabled n h k =
    let e = every-at (λ j. is_tabled (numbered (j + 1))) (tab (λ j. j) 17) (n - 1) 0 all_tabled (omega arith) in
    let q : n - 1 + 1 ≡ n = omega arith in
    test-tabled (numbered n) (rw (get_or-tab (λ j. j) 17 (n - 1) 0 (omega arith), q) at e)

-- the reason of a refusal is one of the 17
abbrev pub RefusalTabled : Refusal → Type 0
RefusalTabled r = Tabled r.reason

-- where the rule refuses, its reason is
abbrev pub RefusesTabled : {A : Type 0} → Said Refusal A → Type 0
RefusesTabled x = RefusesOnly RefusalTabled x

pub sample-tabled : (n : ℕ) (r : Row) → RefusesTabled (answer_said (sample_at n r))
unfolding sample_at
sample-tabled n r =
    on_test (ltb n 1) (λ t. rw t tt) (λ t.
    on_test (ltb 96 n) (λ u. rw (t, u) tt) (λ u. rw (t, u) tt))

pub status-tabled : (n : ℕ) (r : Row) → RefusesTabled (answer_said (status_at n r))
unfolding status_at
status-tabled n r =
    on_test (ltb n 1) (λ t. rw t tt) (λ t.
    on_test (ltb 256 n) (λ u. rw (t, u) tt) (λ u. rw (t, u) tt))
