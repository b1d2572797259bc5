-- NOTHING TO BELIEVE HERE: what the writers of the new file ask. The law `fit_all` (proofs/ChangeLaws.antt) says that it follows where `fit_rows` refuses nothing.
use Rattle.std.specs.Prelude.{◌≡◌, ℕ, ◌<◌}
use Rattle.model.specs.declared.Layout.{Layout}
use Rattle.model.specs.declared.Row.{Row}
use Rattle.data.specs.Files.{misfit_of}

-- every row fits
abbrev pub AllFit : Layout → (ℕ → Row) → Type 0
AllFit l r = (i : ℕ) → i < l.rows → misfit_of l (r i) ≡ l.analogs
