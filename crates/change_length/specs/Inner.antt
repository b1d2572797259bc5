-- NOTHING TO BELIEVE HERE: what each private function of the code says. `decided` is what `bytes_needed` says of a layout within the sizes (law `needed-decided`, proofs/LengthLaws.antt);
-- the laws `decided-walk` (proofs/TallyLaws.antt) and `decided-binary` (proofs/BinaryLaws.antt) say that a walk with its tally, and a check in the bytes of a binary kind, come to just that.
use Rattle.std.specs.Prelude.{Bool, true, false, List, ℕ, zero, suc, ◌+◌, ◌*◌, ◌≤◌, eqb, length, if◌then◌else◌}
use Rattle.ground.specs.Said.{Said, says, refuses, ◌>>◌, answer_of}
use Rattle.ground.specs.Tables.{cat}
use Rattle.model.specs.declared.Kind.{Kind}
use Rattle.model.specs.declared.Layout.{Layout}
use Rattle.model.specs.declared.Row.{Row}
use Rattle.model.specs.declared.Refusal.{Refusal}
use Rattle.model.specs.Layouts.{in_kind}
use Rattle.model.specs.Refusals.{refused}
use Rattle.binary_row.specs.Rows.{row_size}
use Rattle.recode.specs.Inner.{fit_from}
use Rattle.row_bytes.specs.Rows.{by_kind, bytes_of}
use Rattle.row_bytes.specs.Inner.{length_of}
use Rattle.data.specs.Files.{file_fine, row_at, misfit_of, end_mark}
use Rattle.change_length.specs.declared.Misfit.{Misfit}
use Rattle.change_length.specs.declared.Tally.{Tally}
use Rattle.std.specs.Option.{option_or}
use Rattle.std.specs.Prelude.{Err, None, Ok, Option, Result, Some}
use Rattle.change_length.specs.Needed.{fit_rows}

-- how many bytes the first m rows take
unfoldable pub rows_length : Layout → (ℕ → Row) → ℕ → ℕ
rows_length l r zero = 0
rows_length l r (suc m) = rows_length l r m + length_of l (m + 1) (r m)

-- how many bytes the file takes whose rows are r 0, r 1, .. , its end mark counted
unfoldable pub file_length : Layout → (ℕ → Row) → ℕ
file_length l r = rows_length l r l.rows + length (end_mark l)

-- nothing looked at
abbrev pub no_tally : Tally
no_tally = record { misfit = None; length = 0 }

-- the misfit of row n, of whose a samples the first that does not fit is bad
abbrev pub row_misfit : ℕ → ℕ → ℕ → Option Misfit
row_misfit n bad a = if eqb bad a then None else Some (record { at = n; field = 3 + bad })

-- a tally with row n more, of whose a samples the first that does not fit is bad, and the length with it
unfoldable pub tallied : Tally → ℕ → ℕ → ℕ → ℕ → Tally
tallied t n bad a length = record { misfit = option_or t.misfit (row_misfit n bad a); length = length }

-- what is known of the rows when row n was looked at too: the first misfit, and the length
unfoldable pub weigh : Layout → ℕ → Row → Tally → Tally
weigh l n r t = tallied t n (misfit_of l r) l.analogs (t.length + length_of l n r)

-- what is known of the first m rows
unfoldable pub tally_of : Layout → (ℕ → Row) → ℕ → Tally
tally_of l r zero = no_tally
tally_of l r (suc m) = weigh l (m + 1) (r m) (tally_of l r m)

-- the tally of a file that is fine, or its refusal
abbrev pub weighed_of : Said Refusal (Unit {0}) → Tally → Result Tally Refusal
weighed_of fine t = answer_of (do
  fine
  says t)

-- no misfit is known, or 16 at the one that is
abbrev pub all_fit : Option Misfit → Said Refusal (Unit {0})
all_fit None = says tt
all_fit (Some m) = refuses (refused 16 m.at m.field)

-- what a tally says of the new file
unfoldable pub settle : Layout → Tally → Said Refusal ℕ
settle l t = do
  all_fit t.misfit
  says (t.length + length (end_mark l))

-- a tally's length is no more than that of all rows
abbrev pub Short : Result Tally Refusal → Type 0
Short (Ok t) = t.length ≤ 2048 * 1000000
Short (Err r) = Unit {0}

-- what is needed of a sized layout
unfoldable pub decided : Layout → List ℕ → Kind → Said Refusal ℕ
decided l s k = do
  file_fine l s
  fit_rows (in_kind k l) (row_at l s) 0 l.rows
  says (file_length (in_kind k l) (row_at l s))

-- the bytes of the first m rows
abbrev pub rows_bytes : Layout → (ℕ → Row) → ℕ → List ℕ
rows_bytes l r m = cat (λ i. bytes_of l (i + 1) (r i)) m

-- both kinds are binary
abbrev pub both_binary : Kind → Kind → Bool
both_binary k m = by_kind k false (by_kind m false true)

-- what is needed of an accepted file of a binary kind, in another
unfoldable pub settle_binary : Layout → List ℕ → Kind → Said Refusal ℕ
settle_binary l s k = do
  fit_from l k s 0 l.rows
  says (l.rows * row_size (in_kind k l))
