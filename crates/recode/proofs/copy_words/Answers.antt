-- `recode::copy_words` meets its contract.
use mathlib.Core.Path.{◌≡◌, ap, sym, ◌∙◌}
use Prim.Native.Nat.{ℕ}
use lib.ListN.{length}
use Rattle.words.specs.Words.{word_of, word_bytes}
use Rattle.words.proofs.WordLaws.{all-bytes, bytes_back}
use Rattle.recode.proofs.copy_words.Goals as goal

pub returns-then-b-eq2 : goal.returns-then-b-eq2
returns-then-b-eq2 c =
    let known = c.shared_slice_known-1.given in
    let b = c.args.b.now in
    let long : length b ≡ 2 = c.if-b-eq2.true in
    c.put_two.ensures
    ∙ rw c.two.ensures
    (ap (λ (w : ℕ). word_bytes w (word_of b)) (sym long) ∙ bytes_back b (all-bytes b known))
