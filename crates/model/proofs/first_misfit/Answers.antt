-- `first_misfit` meets its contract: the place that the library finds is the one at which the search of the definition stops.
use Rattle.std.proofs.Common.{rules, ◌≡◌, ◌<◌, ◌≤◌, ◌∙◌, ℕ, ℤ, pos, Bool, true, not, List, length, take, get_or, arith, tests}
use Rattle.std.specs.Option.{unwrap_or}
use Rattle.std.specs.List.{position, position_or_len}
use Rattle.std.proofs.lemmas.List.Sums.{position_or_len_is}
use mathlib.Core.Logic.{⊎_elim}
use lib.Seq.{length-take-le}
use Rattle.std.proofs.lemmas.Iterator.Search.{position_from_yields_List}
use Rattle.std.proofs.lemmas.Iterator.{YieldsList-from_slice}
use Rattle.std.proofs.lemmas.List.{get_or-take}
use borrow.Author.Tests.{lt-ltb, le-ltb}
use Rattle.ground.specs.Search.{first_fail}
use Rattle.ground.proofs.Search.{fail-le, fail-none, fail-first}
use Rattle.ground.proofs.Cases.{lt-or-ge}
use Rattle.model.specs.Samples.{fits}
use Rattle.model.specs.Rows.{misfit}
use Rattle.model.proofs.first_misfit.Goals as goal

module _ (t : ℤ → Bool) (zs : List ℤ) (a : ℕ) (h : a ≤ length zs) where
  abbrev f : ℕ → Bool
  f i = t (get_or zs i (pos 0))

  before : (k : ℕ) → k < first_fail f a → f k ≡ true
  before k q =
      ⊎_elim (λ l. (fail-first f a l).0 k q) (λ g. let e : first_fail f a ≡ a = omega (arith, fail-le f a) in fail-none f a e k (omega arith)) (lt-or-ge (first_fail f a) a)

  found : position_or_len (λ z. not (t z)) (take a zs) ≡ first_fail f a
  found =
      let n : length (take a zs) ≡ a = length-take-le a zs h in
      position_or_len_is (λ z. not (t z)) (take a zs) (first_fail f a) (pos 0)
      (rw n (fail-le f a))
      (λ k q. let l : k < a = omega (arith, fail-le f a) in rw (get_or-take a zs k (pos 0) l, before k q))
      (λ q. let l : first_fail f a < a = rw n at q in rw (get_or-take a zs (first_fail f a) (pos 0) l, (fail-first f a l).1))

  told : unwrap_or (position (λ z. not (t z)) (take a zs)) a ≡ first_fail f a
  told =
      let n : length (take a zs) ≡ a = length-take-le a zs h in
      rw (found, n)
      (⊎_elim (λ l. rw (lt-ltb (first_fail f a) a l)) (λ g. rw (le-ltb (first_fail f a) a g) (omega (arith, fail-le f a))) (lt-or-ge (first_fail f a) a))

pub returns : goal.returns
unfolding misfit
returns c =
    let p : c.position.result ≡ position (λ z. not (fits c.args.layout z)) (take c.args.layout.analogs c.args.samples) =
    position_from_yields_List (λ z. not (fits c.args.layout z)) _ _ c.position.result c.position.ensures.ran (YieldsList-from_slice (take c.args.layout.analogs c.args.samples) c.iter.ensures.rest) (λ x b q k. search (rules, tests)) in
    let h : c.args.layout.analogs ≤ length c.args.samples = omega arith in
    c.unwrap_or.ensures ∙ rw p (told (fits c.args.layout) c.args.samples c.args.layout.analogs h)
