-- `put_last` meets its contract. Past the eighth place nothing is stored.
use mathlib.Core.Path.{◌≡◌, refl}
use native.Mathlib.Omega.{arith}
use lib.ListN.{length}
use Rattle.config_rules.specs.Inner.{with_last}
use Rattle.config_rules.proofs.RuleLaws.{set_past}
use borrow.Author.Rules.{rules}
use Rattle.config_rules.proofs.put_last.Goals as goal

pub returns-then-j-lt8 : goal.returns-then-j-lt8
unfolding with_last
returns-then-j-lt8 c = refl

pub returns-else-j-lt8 : goal.returns-else-j-lt8
unfolding with_last
returns-else-j-lt8 c =
    let wide : length c.args.c.now.lasts ≡ 8 = search rules in
    rw (set_past c.args.c.now.lasts c.args.i c.args.last (omega arith))
