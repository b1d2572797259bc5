-- NOTHING TO BELIEVE HERE: what a function says that puts one piece of text after another. The law `put-all-of` (proofs/Laws.antt) says what was put when all is.
use Rattle.std.specs.Prelude.{◌≡◌, List, ◌++◌, ℕ, ◌+◌, length, take, drop}

-- `text` was put after the first n bytes of `old`: so `new` begins, up to r; what follows stays
pub record Put (old : List ℕ) (n : ℕ) (text new : List ℕ) (r : ℕ) : Type 0 where
  pub end : r ≡ n + length text
  pub bytes : take r new ≡ take n old ++ text
  pub rest : drop r new ≡ drop r old
