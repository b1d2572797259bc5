-- How many bytes a change of kind needs: those of the new file, the new kind's writing of the rows that the old kind's reading gives. Refusals in the paper's order.
use Rattle.std.specs.Prelude.{List, ℕ, zero, suc, ◌+◌, eqb, length}
use Rattle.ground.specs.Said.{Said, says, ◌>>◌, must}
use Rattle.model.specs.declared.Kind.{Kind}
use Rattle.model.specs.declared.Layout.{Layout}
use Rattle.model.specs.declared.Row.{Row}
use Rattle.model.specs.declared.Refusal.{Refusal}
use Rattle.model.specs.Editions.{has_kind}
use Rattle.model.specs.Layouts.{is_sized, in_kind}
use Rattle.model.specs.Refusals.{refused}
use Rattle.data.specs.Files.{file_fine, row_at, misfit_of, file_of}

-- row n's samples fit the layout's kind: 16 at the first that does not
abbrev pub fit_row : Layout → ℕ → Row → Said Refusal (Unit {0})
fit_row l n r = must (eqb (misfit_of l r) l.analogs) (refused 16 n (3 + misfit_of l r))

-- m rows fit, from row i on, counted from 0
unfoldable pub fit_rows : Layout → (ℕ → Row) → ℕ → ℕ → Said Refusal (Unit {0})
fit_rows l r i zero = says tt
fit_rows l r i (suc m) = do
  fit_row l (i + 1) (r i)
  fit_rows l r (i + 1) m

-- the new file
unfoldable pub changed : Layout → List ℕ → Kind → List ℕ
changed l s k = file_of (in_kind k l) (row_at l s)

-- the length question: how many bytes the new file has; it refuses as the change does, but never with 17
unfoldable pub bytes_needed : Layout → List ℕ → Kind → Said Refusal ℕ
bytes_needed l s k = do
  must (is_sized l) (refused 10 0 0)
  must (has_kind l.edition k) (refused 10 0 0)
  file_fine l s
  fit_rows (in_kind k l) (row_at l s) 0 l.rows
  says (length (changed l s k))
