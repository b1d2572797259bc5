-- Places past A and D are not read when a row is written.
--     unread     what writing a row says is what writing it with these places zero says
-- Assumes nothing.
use mathlib.Core.Path.{◌≡◌}
use Prim.Native.Nat.{ℕ, ◌≤◌}
use lib.ListN.{length}
use Rattle.model.specs.declared.Layout.{Layout}
use Rattle.model.specs.declared.Row.{Row}
use Rattle.model.specs.Rows.{trimmed}
use Rattle.model.proofs.FitLaws.{unread-misfit}
use Rattle.row_bytes.proofs.RowLaws.{unread-row}
use Rattle.data.specs.Files.{misfit_of, write_said}

pub unread : (l : Layout) (r : Row) (n room : ℕ) → l.statuses ≤ length r.statuses → write_said l n (trimmed l r) room ≡ write_said l n r room
unfolding write_said misfit_of
unread l r n room enough = rw (unread-misfit l r, unread-row l r n enough)
