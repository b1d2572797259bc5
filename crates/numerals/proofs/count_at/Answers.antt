-- `numerals::count_at` meets its contract.
use Rattle.numerals.proofs.WalkLaws.{count-there}
use Rattle.numerals.proofs.count_at.Goals as goal

pub returns : goal.returns
returns c =
    count-there _ c.args.s.now _ _ _ _ _ c.skip_spaces-i.ensures c.run_digits-run.ensures c.if-run-i.false c.if-lim-run.false
    c.limit-lim.ensures.1 c.limit-lim.ensures.2
