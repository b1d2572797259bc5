-- `put_listing` meets its contract: the configuration's refusal, or what is said of the data file.
use Rattle.std.proofs.Common.{sym, rules}
use Rattle.model.proofs.LayoutLaws.{sized}
use Rattle.config.proofs.SizedLaws.{accepted-sized}
use Rattle.list_text.specs.Listing.{listing, listed_to}
use Rattle.pieces.proofs.Laws.{put-all-of}
use Rattle.list_text.proofs.put_listing.Goals as goal

pub put_data_listing-requires : goal.put_data_listing-requires
put_data_listing-requires c =
    (sized c.in-Ok.config.layout (accepted-sized c.args.cfg.now c.in-Ok.config (sym c.in-Ok.ensures)), search rules)

pub returns-in-Ok : goal.returns-in-Ok
unfolding listing listed_to
returns-in-Ok c = rw (← c.in-Ok.ensures) (put-all-of c.put_data_listing.ensures)

pub returns-in-Err : goal.returns-in-Err
unfolding listing listed_to
returns-in-Err c = rw (← c.in-Err.ensures) (put-all-of c.put_refusal_line.ensures)
