-- `calls_rewrite::write_config` meets its contract: the kind of the number, and then the writer; or the refusals that come first.
use mathlib.Core.Path.{sym, ◌∙◌}
use lib.ListN.{length}
use Rattle.answers.proofs.CountedLaws.{counted-written}
use Rattle.calls_rewrite.proofs.Laws.{call-writes, call-refuses}
use Rattle.calls_rewrite.proofs.write_config.Goals as goal

pub returns-in-Some : goal.returns-in-Some
returns-in-Some c =
    let kind = sym c.of.ensures ∙ c.in-Some.is in
    let said = c.write_config.ensures in
    let e = call-writes c.args.cfg.now c.args.kind c.in-Some.k (length c.args.out.now) kind in
    record { value = rw (c.counted.ensures, said.value.0, counted-written, e); out_after = rw e said.out_after }

pub returns-in-None : goal.returns-in-None
returns-in-None c =
    let kind = sym c.of.ensures ∙ c.in-None.is in
    let e = call-refuses c.args.cfg.now c.args.kind (length c.args.out.now) kind in
    record { value = rw (c.no.ensures, c.refusal_or.ensures, c.refused.ensures, c.read_config.ensures, e); out_after = rw e }
