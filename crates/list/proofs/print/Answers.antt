-- What was written is the listing.
use Rattle.std.proofs.Common.{◌≡◌, OnOk, take, ap, subst, ◌∙◌}
use Rattle.std.specs.Io.KnownBytes.{Appends}
use Rattle.list_text.specs.Listing.{listing, listed_to}
use Rattle.list.proofs.Laws.{take-front}
use Rattle.list.proofs.print.Goals as goal

pub returns : goal.returns
unfolding listed_to
returns g c =
    let n = c.put_listing-n.result in
    let told = c.put_listing-n.ensures in
    let text : take n c.put_listing-n.new.out ≡ listing c.args.cfg.now c.args.dat.now
    = ap (take n) told.1 ∙ take-front n _ _ told.0 in
    subst (λ x. OnOk c.write_all.result (Appends (g.O.Write.contents c.args.out.now) (g.O.Write.contents c.write_all.new.self) x)) text c.write_all.ensures.bytes
