-- `leading_digits` meets its contract: its recursion is that of the place of the first character that is no digit.
use mathlib.Core.Path.{refl, ◌∙◌}
use mathlib.Core.Bool.{not}
use Prim.Native.Nat.{◌≤◌}
use native.Mathlib.Omega.{arith}
use borrow.Author.Rules.{rules}
use borrow.Author.Tests.{tests, ltb-false}
use lib.Dec.{ltb}
use lib.ListN.{length}
use Rattle.std.proofs.lemmas.Iterator.{YieldsList-from_slice}
use Rattle.std.proofs.lemmas.Iterator.Search.{position_from_yields_List}
use Rattle.std.proofs.lemmas.List.Sums.{prefix_len-le-length}
use Rattle.std.proofs.lemmas.List.Recursion.{is_position_or_len}
use Rattle.ground.proofs.Cases.{on_test}
use Rattle.numerals.specs.Counts.{is_digit}
use Rattle.reals.specs.Forms.{leading_digits}
use Rattle.reals.proofs.leading_digits.Goals as goal

pub returns : goal.returns
unfolding leading_digits
returns c =
    let l = c.args.s.now in
    let m = is_position_or_len leading_digits (λ b. not (is_digit b)) refl (λ b l. on_test (is_digit b) (λ e. rw e (omega arith)) (λ e. rw e)) l in
    let p = position_from_yields_List (λ b. not (is_digit b)) _ _ c.position.result c.position.ensures.ran (YieldsList-from_slice l cc) (λ x b q k. search (rules, tests)) in
    let w : leading_digits l ≤ length l = rw m (prefix_len-le-length (λ b. not (not (is_digit b))) l) in
    c.unwrap_or.ensures
    ∙ rw (p, ← m)
    (on_test (ltb (leading_digits l) (length l)) (λ e. rw e) (λ e. rw e (omega (arith, ltb-false (leading_digits l) (length l) e))))
