-- What a room holds after one more read, and the front of a text.
--     take-more         the bytes before a part that was read into, and the first of that part
--     take-front        a text in front of others is a part of its own length
use Rattle.std.proofs.Common.{◌≡◌, ℕ, ◌+◌, ◌≤◌, List, ◌++◌, length, take, sym, ap, ◌∙◌, length-take-le}
use Rattle.std.proofs.Math.Seq.{take-append-add, take-append_seam}
use Rattle.std.proofs.lemmas.List.{take-append-le}
use borrow.Rule.Slice.PartMut.{put_mid}

pub take-more : (n k m : ℕ) (xs ys : List ℕ) → n ≤ length xs → m ≤ length ys → take (n + m) (put_mid n k xs ys) ≡ take n xs ++ take m ys
take-more n k m xs ys p q =
    ap (λ i. take (i + m) (put_mid n k xs ys)) (sym (length-take-le n xs p))
    ∙ take-append-add (take n xs) _ m
    ∙ ap (λ l. take n xs ++ l) (take-append-le m ys _ q)

pub take-front : (n : ℕ) (xs ys : List ℕ) → n ≡ length xs → take n (xs ++ ys) ≡ xs
take-front n xs ys e = ap (λ k. take k (xs ++ ys)) e ∙ take-append_seam xs ys
