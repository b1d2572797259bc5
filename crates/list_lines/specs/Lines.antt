-- The lines of a listing: the first line, the line of a row, the line of a refusal.
use Rattle.std.specs.Prelude.{Bool, List, [], ◌∷◌, ◌++◌, ℕ, ◌+◌, if◌then◌else◌}
use Rattle.ground.specs.Tables.{cat}
use Rattle.ground.specs.Quoted.{quoted}
use Rattle.numerals.specs.Decimals.{decimal, plain}
use Rattle.model.specs.declared.Layout.{Layout}
use Rattle.model.specs.declared.Row.{Row}
use Rattle.model.specs.declared.Refusal.{Refusal}
use Rattle.model.specs.Refusals.{reason_number}
use Rattle.std.specs.Prelude.{Err, None, Ok, Option, Result, Some, ℤ}
use Rattle.model.specs.Kinds.{kind_name}
use Rattle.model.specs.Rows.{sample_at, status_at, status_value}

-- a count after its name
abbrev pub named : List ℕ → ℕ → List ℕ
named name v = name ++ decimal v

-- the first line: `A 1 D 1 rows 2 ASCII`
unfoldable pub head_line : Layout → List ℕ
head_line l =
    named (quoted "A ") l.analogs
    ++ named (quoted " D ") l.statuses
    ++ named (quoted " rows ") l.rows
    ++ quoted " "
    ++ kind_name l.kind
    ++ quoted "\n"

-- a sample in a listing: its number, or x where it is missing
unfoldable pub sample_word : Result (Option ℤ) Refusal → List ℕ
sample_word (Ok (Some z)) = plain z
sample_word (Ok None) = quoted "x"
sample_word (Err r) = []

-- the samples of the first a channels, a space before each
unfoldable pub spaced_samples : Row → ℕ → List ℕ
spaced_samples r a = cat (λ i. 32 ∷ sample_word (sample_at (i + 1) r)) a

-- a space and a status
unfoldable pub spaced_status : Bool → List ℕ
spaced_status on = if on then quoted " 1" else quoted " 0"

-- the statuses of the first d channels
unfoldable pub spaced_statuses : Row → ℕ → List ℕ
spaced_statuses r d = cat (λ i. spaced_status (status_value (status_at (i + 1) r))) d

-- the line of row n: number, time, samples, statuses
unfoldable pub row_line : Layout → ℕ → Row → List ℕ
row_line l n r =
    decimal n
    ++ named (quoted " ") r.time
    ++ spaced_samples r l.analogs
    ++ spaced_statuses r l.statuses
    ++ quoted "\n"

-- the line of a refusal: what it speaks of, its number and its place
unfoldable pub refusal_line : List ℕ → Refusal → List ℕ
refusal_line what r =
    named what (reason_number r.reason)
    ++ named (quoted " ") r.at
    ++ named (quoted " ") r.field
    ++ quoted "\n"
