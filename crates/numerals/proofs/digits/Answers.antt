-- `digits` meets its contract.
use Rattle.numerals.proofs.WalkLaws.{all_digits, more-than-digits}
use Rattle.numerals.proofs.digits.Goals as goal

pub returns-then-run-s : goal.returns-then-run-s
returns-then-run-s c = more-than-digits c.args.s.now _ _ c.run_digits-run.ensures c.if-run-s.true

pub returns : goal.returns
returns c = all_digits c.args.s.now _ _ c.run_digits-run.ensures c.if-run-s.false
