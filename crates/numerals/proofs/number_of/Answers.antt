-- `number_of` meets its contract.
use borrow.Author.Tests.{eq-eqb, ne_eqb}
use Rattle.numerals.specs.Counts.{number_of}
use Rattle.numerals.proofs.number_of.Goals as goal

pub returns-then-s-eq0 : goal.returns-then-s-eq0
unfolding number_of
returns-then-s-eq0 c = rw (eq-eqb _ 0 c.if-s-eq0.true)

pub returns : goal.returns
unfolding number_of
returns c = rw (c.digits.ensures, ne_eqb _ 0 c.if-s-eq0.false)
