-- `text::four_fine` meets its contract.
use mathlib.Core.Bool.{◌&&◌}
use lib.Dec.{leb}
use Rattle.text.proofs.LineLaws.{four_bytes}
use Rattle.text.proofs.four_fine.Goals as goal

pub returns : goal.returns
returns c =
    rw (c.is_line_byte-p.ensures, c.is_line_byte-q.ensures, c.is_line_byte-u.ensures, c.is_line_byte-v.ensures)
    (four_bytes (λ b. leb 32 b && leb b 126) c.args.s.now _ c.requires)
