-- `words::put_word` meets its contract. The loop's invariant: the bytes before the place are those of n, the rest is as it was, and m is n
-- without as many low bytes.
use mathlib.Core.Path.{sym}
use native.Mathlib.Nat.{div-one, div-div-eq-div-mul, pow-suc}
use native.Mathlib.Numerals.{add-one}
use native.Mathlib.Omega.{arith}
use borrow.Author.Rules.{rules}
use Rattle.ground.proofs.Tables.{tab-set}
use Rattle.words.specs.Words.{byte_of, word_bytes}
use Rattle.words.proofs.put_word.Goals as goal

pub loop-x-init : goal.loop-x-init
unfolding word_bytes
loop-x-init c = (sym (div-one c.args.n), search rules)

pub loop-x-preserved : goal.loop-x-preserved
unfolding word_bytes
loop-x-preserved c =
    let i = c.loop-x.x-index in
    let inv = c.loop-x.invariant in
    let d₀ = c.args.d.now in
    let n = c.args.n in (
      rw (inv.0, div-div-eq-div-mul, add-one, pow-suc),
      rw (inv.0, inv.1) (tab-set (byte_of n) d₀ i (omega arith)),
    )
