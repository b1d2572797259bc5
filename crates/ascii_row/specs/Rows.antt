-- Rows of text: whether a row's line is fine, in the paper's order of refusals, and the row that it says.
use Rattle.std.specs.Prelude.{Bool, false, List, ℕ, zero, suc, ◌+◌, eqb, leb, ℤ, pos, drop, if◌then◌else◌}
use Rattle.ground.specs.Said.{Said, says, refuses, ◌>>=◌, ◌>>◌, must}
use Rattle.ground.specs.Tables.{padded}
use Rattle.text.specs.Fields.{field_count, field_length, first_field, after_fields, field_at}
use Rattle.std.specs.Prelude.{None, Option, Some}
use Rattle.numerals.specs.Counts.{read_count}
use Rattle.model.specs.declared.Layout.{Layout}
use Rattle.model.specs.declared.Row.{Row}
use Rattle.model.specs.declared.Refusal.{Refusal}
use Rattle.model.specs.Refusals.{refused}
use Rattle.ascii_row.specs.Fields.{read_timestamp, read_sample, is_status, is_count, is_whole, time_in, sample_in, status_in}

-- the fields of a row: number, timestamp, samples, statuses
abbrev pub fields_of : Layout → ℕ
fields_of l = 2 + l.analogs + l.statuses

-- the count of field k of row n, or 14 there
abbrev pub field : ℕ → ℕ → Option ℕ → Said Refusal ℕ
field n k (Some v) = says v
field n k None = refuses (refused 14 n k)

-- field k, from the second on, of a row: the timestamp, a sample, or a status
unfoldable pub field_fine : Layout → ℕ → List ℕ → Bool
field_fine l k f =
    if eqb k 2 then is_count (read_timestamp f)
    else if leb k (2 + l.analogs) then is_whole (read_sample l f)
    else is_status f

-- m fields of row n are fine, from field k on, with which t begins
unfoldable pub check_fields : Layout → ℕ → List ℕ → ℕ → ℕ → Said Refusal (Unit {0})
check_fields l n t k zero = says tt
check_fields l n t k (suc m) = do
  must (field_fine l k (first_field t)) (refused 14 n k)
  check_fields l n (drop (field_length t + 1) t) (k + 1) m

-- the number in field 1 of row n's line is n: first 14 and then 12
unfoldable pub check_number : ℕ → List ℕ → Said Refusal (Unit {0})
check_number n line = do
  number ← field n 1 (read_count 1 10 (field_at 1 line))
  must (eqb number n) (refused 12 n 1)

-- the line of row n: the field count, then the fields from the left
unfoldable pub check_line : Layout → ℕ → List ℕ → Said Refusal (Unit {0})
check_line l n line = do
  must (eqb (field_count line) (fields_of l)) (refused 14 n 0)
  check_number n line
  check_fields l n (after_fields 1 line) 2 (1 + l.analogs + l.statuses)

-- sample i of fields that are samples
abbrev pub field_sample : Layout → List ℕ → ℕ → ℤ
field_sample l t i = sample_in l (field_at (i + 1) t)

-- status i of fields that are statuses
abbrev pub field_status : List ℕ → ℕ → Bool
field_status t i = status_in (field_at (i + 1) t)

-- the row that a line says; its number is left to the check
unfoldable pub row_of : Layout → List ℕ → Row
row_of l line =
    record {
      time = time_in (field_at 2 line);
      samples = padded (field_sample l (after_fields 2 line)) l.analogs 96 (pos 0);
      statuses = padded (field_status (after_fields (2 + l.analogs) line)) l.statuses 256 false;
    }
