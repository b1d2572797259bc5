-- Laws of text that is put, piece after piece.
--     put-none, put_then            nothing is put; one piece, and then the next
--     same-on                       what is the same from n on is the same from further on
--     put-all-of                    one piece alone is all of the text, and what follows it stays
--     put_as                        the same text, written in another way
--     put-part                      a piece fills a part
--     cat-next                      one piece more of pieces in a row
--     kind-short                    the word of a kind has at most 8 characters
-- Assumes nothing.
use mathlib.Core.Path.{◌≡◌, refl, sym, ap, ◌∙◌}
use mathlib.Core.List.{List, [], ◌++◌, append_assoc, append-nil}
use Prim.Native.Nat.{ℕ, ◌+◌, ◌-◌, ◌≤◌}
use native.Mathlib.Numerals.{add-one}
use native.Mathlib.Omega.{arith}
use lib.Dec.{lit≤}
use lib.ListN.{length, take, drop, length-append, length-take, take-append-drop}
use lib.Seq.{take_at, drop_at, drop-drop, length-take-le}
use Rattle.ground.specs.Tables.{cat}
use Rattle.model.specs.declared.Kind.{Kind}
use Rattle.model.specs.declared.Kind.TheVariants.{Ascii, Binary, Binary32}
use Rattle.model.specs.Kinds.{kind_name}
use Rattle.pieces.specs.Inner.{Put}

pub put-none : (l : List ℕ) (n : ℕ) → Put l n [] l n
put-none l n = record { end = omega arith; bytes = rw append-nil; rest = refl }

-- what is the same from n on is the same from further on
pub same-on : (n m : ℕ) (a b : List ℕ) → drop n a ≡ drop n b → drop (n + m) a ≡ drop (n + m) b
same-on n m a b e = sym (drop-drop m n a) ∙ ap (λ (l : List ℕ). drop m l) e ∙ drop-drop m n b

pub put_then : {a b c x y : List ℕ} {n m k : ℕ} → Put a n x b m → Put b m y c k → Put a n (x ++ y) c k
put_then {a} {b} {c} {x} {y} {n} {m} {k} p q =
    record {
      end = rw length-append (omega arith);
      bytes = q.bytes ∙ rw (p.bytes, append_assoc);
      rest = q.rest ∙ rw q.end (same-on m (length y) b a p.rest);
    }

pub put-all-of : {a b x : List ℕ} {m : ℕ} → Put a 0 x b m → (m ≡ length x) × (b ≡ x ++ drop (length x) a) × (m ≤ length b)
put-all-of {a} {b} {x} {m} p =
    let e : m ≡ length x = omega arith in
    let d : drop m a ≡ drop (length x) a = rw e in
    let f : take m b ++ drop m b ≡ x ++ drop (length x) a = rw (p.bytes, p.rest, d) in
    (e, sym (take-append-drop m b) ∙ f, omega (arith, simp length-take at (ap length p.bytes)))

pub put_as : {a b x y : List ℕ} {n m : ℕ} → Put a n x b m → x ≡ y → Put a n y b m
put_as p e = rw (← e) p

-- ys fills the part of l from n to t
pub put-part : (l ys : List ℕ) (n t : ℕ) → n ≤ length l → n + length ys ≡ t
    → Put l n ys (take n l ++ (ys ++ drop (t - n) (drop n l))) t
put-part l ys n t h e =
    let s : length (take n l ++ ys) ≡ t = rw (length-append, length-take-le n l h) e in
    let f : n + (t - n) ≡ t = omega arith in
    let r : drop (n + (t - n)) l ≡ drop t l = rw f in
    record {
      end = sym e;
      bytes = rw (← append_assoc) (take_at (take n l ++ ys) (drop (t - n) (drop n l)) t s);
      rest = rw (← append_assoc) (drop_at (take n l ++ ys) (drop (t - n) (drop n l)) t s ∙ drop-drop (t - n) n l ∙ r);
    }

-- one piece more
pub cat-next : (f : ℕ → List ℕ) (i : ℕ) → cat f i ++ f i ≡ cat f (i + 1)
cat-next f i = rw add-one

pub kind-short : (k : Kind) → length (kind_name k) ≤ 8
unfolding kind_name
kind-short Ascii = lit≤ tt
kind-short Binary = lit≤ tt
kind-short Binary32 = lit≤ tt
