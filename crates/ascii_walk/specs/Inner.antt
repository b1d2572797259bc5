-- NOTHING TO BELIEVE HERE: what the functions say that find each field's end as they read it; no public call of the library cites it.
-- A text row by the fields that were passed.
use Rattle.std.specs.Prelude.{◌≡◌, Bool, true, List, ℕ, zero, suc, ◌+◌, ◌-◌, ◌<◌, ◌≤◌, length, get_or, take}
use Rattle.ground.specs.Tables.{part}
use Rattle.ground.specs.Said.{says}
use Rattle.std.specs.Prelude.{Ok}
use Rattle.text.specs.Lines.{scan_line}
use Rattle.model.specs.declared.Layout.{Layout}
use Rattle.ascii_row.specs.Fields.{read_timestamp, read_sample, is_status, is_count, is_whole}
use Rattle.ascii_row.specs.Rows.{field_fine, check_line}

-- from place i, where a comma stands, to place j a field is passed, and the test holds of it
pub record FieldThere (test : List ℕ → Bool) (s : List ℕ) (i j : ℕ) : Type 0 where
  pub comma : get_or s i 0 ≡ 44
  pub past : i < j
  pub within : j < length s
  pub fine : test (part (i + 1) j s) ≡ true

-- the field is a timestamp
abbrev pub TimeThere : List ℕ → ℕ → ℕ → Type 0
TimeThere s i j = FieldThere (λ f. is_count (read_timestamp f)) s i j

-- the field is a sample
abbrev pub SampleThere : Layout → List ℕ → ℕ → ℕ → Type 0
SampleThere l s i j = FieldThere (λ f. is_whole (read_sample l f)) s i j

-- the field is a status, which takes two bytes with its comma
abbrev pub StatusThere : List ℕ → ℕ → Type 0
StatusThere s i = FieldThere is_status s i (i + 2)

-- the field is what field k of a row must be
abbrev pub Next : Layout → List ℕ → ℕ → ℕ → ℕ → Type 0
Next l s k i j = FieldThere (field_fine l k) s i j

-- four statuses, each after a comma, from place i on
pub record FourThere (s : List ℕ) (i : ℕ) : Type 0 where
  pub one : StatusThere s i
  pub two : StatusThere s (i + 2)
  pub three : StatusThere s (i + 4)
  pub four : StatusThere s (i + 6)

-- a line that ends at place e takes so many bytes
pub record LineEnd (s : List ℕ) (e taken : ℕ) : Type 0 where
  pub takes : taken ≡ e + 2
  pub short : e ≤ 1880
  pub within : e + 1 < length s
  pub cr : get_or s e 0 ≡ 13
  pub lf : get_or s (e + 1) 0 ≡ 10

-- from place i, where field k ends, to place j m more fields are passed
abbrev pub Passed : Layout → List ℕ → ℕ → ℕ → ℕ → ℕ → Type 0
Passed l s k i zero j = i ≡ j
Passed l s k i (suc m) j = (x : ℕ) × Passed l s k i m x × Next l s (k + m + 1) x j

-- row n takes so many bytes of s, its CR LF included, and is fine
pub record RowThere (l : Layout) (n : ℕ) (s : List ℕ) (taken : ℕ) : Type 0 where
  pub scanned : scan_line 1880 s ≡ Ok (record { len = (taken - 2); taken = taken })
  pub fine : check_line l n (take (taken - 2) s) ≡ says tt
