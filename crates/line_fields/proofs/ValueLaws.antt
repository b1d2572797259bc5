-- Laws of the values of fields: how large they can be, and where they are said.
--     value-le, value-ge, lettered-le      a number that was read in a range, and a count with a letter
--     quality-small, leap-small            time quality and leap second code
--     value-told, value-read               what was read, where it is said, and where the code answers it
-- Assumes nothing.
use mathlib.Core.Path.{◌≡◌, refl}
use mathlib.Core.Bool.{true, not}
use mathlib.Core.List.{List, [], ◌∷◌}
use Prim.Native.Nat.{ℕ, ◌-◌, ◌≤◌}
use borrow.Author.Tests.{ltb-false, eqb-true, leb-true}
use lib.Dec.{ltb, eqb, leb}
use lib.ListN.{length, get_or, take}
use Rattle.ground.specs.Said.{says, answer_of}
use Rattle.ground.specs.Quoted.{quoted}
use Rattle.ground.specs.Tables.{every}
use Rattle.ground.proofs.Cases.{on_test, clash}
use Rattle.ground.proofs.Every.{and_split}
use Rattle.std.proofs.Common.{Err, None, Ok, Option, Result, Some}
use Rattle.numerals.specs.declared.FieldError.{FieldError}
use Rattle.numerals.specs.declared.FieldError.TheVariants.{Form, Range}
use Rattle.numerals.specs.Counts.{length_in, read_count}
use Rattle.fields.specs.Fields.{in_range, read_count_in, read_lettered, is_among, read_one_of, digit_value, read_digit_of, read_quality, read_leap}
use Rattle.line_fields.specs.Checks.{value_at}

-- a number that was read is in its range
range-told : (low high : ℕ) (k : Option ℕ) (v : ℕ) → in_range low high k ≡ Ok v → (low ≤ v) × (v ≤ high)
unfolding in_range
range-told low high None v e = clash (cc)
range-told low high (Some w) v e =
    on_test (ltb w low) (λ p. let x = rw p at e in clash (cc)) (λ p.
    on_test (ltb high w) (λ q. let x = rw (p, q) at e in clash (cc)) (λ q.
    let x = rw (p, q) at e in
    let s : w ≡ v = cc in
    rw (← s) (ltb-false w low p, ltb-false high w q)))

pub value-le : (most low high : ℕ) (l : List ℕ) (v : ℕ) → read_count_in most low high l ≡ Ok v → v ≤ high
unfolding read_count_in
value-le most low high l v e = (range-told low high (read_count 1 most l) v e).1

pub value-ge : (most low high : ℕ) (l : List ℕ) (v : ℕ) → read_count_in most low high l ≡ Ok v → low ≤ v
unfolding read_count_in
value-ge most low high l v e = (range-told low high (read_count 1 most l) v e).0

pub lettered-le : (letter high : ℕ) (l : List ℕ) (v : ℕ) → read_lettered letter high l ≡ Ok v → v ≤ high
unfolding read_lettered
lettered-le letter high l v e =
    on_test (not (length_in 2 7 l)) (λ p. let x = rw p at e in clash (cc)) (λ p.
    on_test (not (eqb (get_or l (length l - 1) 0) letter))
    (λ q. let x = rw (p, q) at e in clash (cc))
    (λ q. value-le 6 0 high (take (length l - 1) l) v (rw (p, q) at e)))

-- what is among digits of at most k is at most k
among-le : (k b : ℕ) (allowed : List ℕ) → every (λ a. leb (digit_value a) k) allowed ≡ true → is_among b allowed ≡ true → digit_value b ≤ k
among-le k b [] h e = clash (cc)
among-le k b (a ∷ l) h e =
    let s = and_split (leb (digit_value a) k) (every (λ a. leb (digit_value a) k) l) h in
    on_test (eqb a b)
    (λ t. let q : a ≡ b = eqb-true a b t in rw (← q) (leb-true (digit_value a) k s.0))
    (λ t. among-le k b l s.1 (rw t at e))

digit-le : (k : ℕ) (allowed l : List ℕ) (v : ℕ) → every (λ a. leb (digit_value a) k) allowed ≡ true → read_digit_of allowed l ≡ Ok v → v ≤ k
unfolding read_digit_of read_one_of
digit-le k allowed l v h e =
    on_test (not (eqb (length l) 1)) (λ p. let x = rw p at e in clash (cc)) (λ p.
    on_test (is_among (get_or l 0 0) allowed)
    (λ q. let x = rw (p, q) at e in let s : digit_value (get_or l 0 0) ≡ v = cc in rw (← s) (among-le k (get_or l 0 0) allowed h q))
    (λ q. let x = rw (p, q) at e in clash (cc)))

pub quality-small : (l : List ℕ) (v : ℕ) → read_quality l ≡ Ok v → v ≤ 15
unfolding read_quality digit_value
quality-small l v e = digit-le 15 (quoted "0123456789ABFabf") l v refl e

pub leap-small : (l : List ℕ) (v : ℕ) → read_leap l ≡ Ok v → v ≤ 3
unfolding read_leap digit_value
leap-small l v e = digit-le 3 (quoted "0123") l v refl e

-- what was read in field k, where it is said
pub value-told : {A : Type 0} (k : ℕ) (f : Result A FieldError) (v : A) → value_at k f ≡ says v → f ≡ Ok v
value-told k (Ok w) v e = cc
value-told k (Err Form) v e = clash (cc)
value-told k (Err Range) v e = clash (cc)

-- and where the code answers it
pub value-read : {A : Type 0} (k : ℕ) (f : Result A FieldError) (v : A) → Ok v ≡ answer_of (value_at k f) → f ≡ Ok v
value-read k (Ok w) v e = cc
value-read k (Err x) v e = cc
