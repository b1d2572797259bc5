-- `calls_config::show_config` meets its contract: 35 places are filled where there is room for them.
use Rattle.config_places.proofs.ConfigLaws.{config-places}
use borrow.Author.Tests.{le-leb}
use lib.ListN.{length}
use Rattle.calls_config.proofs.show_config.Goals as goal

pub returns : goal.returns
returns c =
    let room = le-leb 35 (length c.args.shown.now) c.if-shown-lt-CONFIG.false in
    record { value = rw (c.yes.ensures, room); shown_after = rw (room, c.put_config.ensures, config-places c.args.config) }
