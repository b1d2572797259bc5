-- What a line that speaks of no channel refuses with: each number at its place.
--     station-ruled, frequency-ruled, rates-ruled, rate-ruled, date-line-ruled, kind-line-ruled, multiplier-ruled, codes-ruled, quality-ruled     each line's rule
-- Assumes nothing.
use mathlib.Core.Bool.{Bool}
use mathlib.Core.List.{List}
use Prim.Native.Nat.{ℕ, ◌≤◌}
use lib.Dec.{lit≤, ltb}
use Rattle.ground.specs.Said.{must}
use Rattle.ground.proofs.RefusalLaws.{only-must}
use Rattle.text.specs.Fields.{field_at}
use Rattle.std.proofs.Common.{Err, None, Ok, Option, Result, Some}
use Rattle.numerals.specs.declared.FieldError.{FieldError}
use Rattle.clock.specs.declared.Date.{Date}
use Rattle.clock.specs.declared.Time.{Time}
use Rattle.codes.specs.declared.Code.{Code}
use Rattle.codes.specs.declared.Code.TheVariants.{Minutes, X}
use Rattle.numerals.specs.declared.FieldError.TheVariants.{Form, Range}
use Rattle.fields.specs.Fields.{read_count_in, read_year, read_quality, read_leap, read_kind}
use Rattle.clock.specs.Dates.{read_date}
use Rattle.clock.specs.Times.{read_time, is_zero_time}
use Rattle.codes.specs.Codes.{read_code, read_local_code}
use Rattle.model.specs.declared.Edition.{Edition}
use Rattle.model.specs.Editions.{edition_of}
use Rattle.line_fields.specs.Faults.{text_fault, frequency_fault, above_fault, rate_fault}
use Rattle.line_fields.specs.Checks.{fault, has_fields, faultless, value_at, value}
use Rattle.line_fields.proofs.PlaceLaws.{FaultPlaced, form, range, year, Ruled, text-check, frequency-check, above-check, rate-check}
use Rattle.line_fields.proofs.PlaceLaws.{has-fields-ruled, then-ruled, bind-ruled, faultless-ruled, agrees-ruled, value-ruled}
use Rattle.config_lines.specs.Lines.{edition_at, year_at, none_said, stamp_said, of_edition, code_at, local_at}
use Rattle.config_lines.specs.Lines.{station_line, frequency_line, rates_line, rate_line, date_line, kind_line, multiplier_line, codes_line, quality_line}

-- field k, from the first on
module _ (k : ℕ) (h : 1 ≤ k) where
  edition-ruled : (v : Option Edition) → Ruled (edition_at k v)
  edition-ruled (Some e) = tt
  edition-ruled None = year k h

  year-ruled : (v : Option ℕ) → Ruled (year_at k v)
  year-ruled (Some y) = edition-ruled (edition_of y)
  year-ruled None = form k h

  code-ruled : (v : Result Code FieldError) → Ruled (code_at k v)
  code-ruled (Ok (Minutes m)) = tt
  code-ruled (Ok X) = form k h
  code-ruled (Err Form) = form k h
  code-ruled (Err Range) = range k h

  local-ruled : (v : Result Code FieldError) → Ruled (local_at k v)
  local-ruled (Ok (Minutes m)) = tt
  local-ruled (Ok X) = tt
  local-ruled (Err Form) = form k h
  local-ruled (Err Range) = range k h

-- a time beside a date of zeros: all is told at the date
none-ruled : (t : Result Time FieldError) → Ruled (none_said t)
none-ruled (Ok x) = then-ruled (must (is_zero_time x) (fault 6 1)) _ (only-must FaultPlaced (is_zero_time x) (fault 6 1) (λ e. range 1 (lit≤ tt))) tt
none-ruled (Err Form) = range 1 (lit≤ tt)
none-ruled (Err Range) = range 1 (lit≤ tt)

-- a date and a time together
stamp-ruled : (d : Result (Option Date) FieldError) (t : Result Time FieldError) → Ruled (stamp_said d t)
stamp-ruled (Ok (Some x)) t = bind-ruled (value_at 2 t) _ (value-ruled 2 (lit≤ tt) t) (λ y. tt)
stamp-ruled (Ok None) t = none-ruled t
stamp-ruled (Err Form) t = form 1 (lit≤ tt)
stamp-ruled (Err Range) t = range 1 (lit≤ tt)

-- The lines
pub station-ruled : (l : List ℕ) → Ruled (station_line l)
unfolding station_line
station-ruled l =
    then-ruled (has_fields 3 l) _ (has-fields-ruled 3 l)
    (then-ruled (faultless 1 (text_fault 0 64) l) _ (faultless-ruled 1 (lit≤ tt) (text_fault 0 64) l (text-check 0 64))
    (then-ruled (faultless 2 (text_fault 0 64) l) _ (faultless-ruled 2 (lit≤ tt) (text_fault 0 64) l (text-check 0 64))
    (year-ruled 3 (lit≤ tt) (read_year (field_at 3 l)))))

pub frequency-ruled : (l : List ℕ) → Ruled (frequency_line l)
unfolding frequency_line
frequency-ruled l = then-ruled (has_fields 1 l) _ (has-fields-ruled 1 l) (faultless-ruled 1 (lit≤ tt) frequency_fault l frequency-check)

pub rates-ruled : (l : List ℕ) → Ruled (rates_line l)
unfolding rates_line
rates-ruled l = then-ruled (has_fields 1 l) _ (has-fields-ruled 1 l) (value-ruled 1 (lit≤ tt) (read_count_in 3 0 8 (field_at 1 l)))

pub rate-ruled : (none : Bool) (before : ℕ) (l : List ℕ) → Ruled (rate_line none before l)
unfolding rate_line
rate-ruled none before l =
    then-ruled (has_fields 2 l) _ (has-fields-ruled 2 l)
    (then-ruled (faultless 1 (rate_fault none) l) _ (faultless-ruled 1 (lit≤ tt) (rate_fault none) l (rate-check none))
    (bind-ruled (value 2 (read_count_in 10 1 1000000) l) _ (value-ruled 2 (lit≤ tt) (read_count_in 10 1 1000000 (field_at 2 l))) (λ last.
    then-ruled (must (ltb before last) (fault 7 2)) _ (agrees-ruled 2 (lit≤ tt) (ltb before last)) tt)))

pub date-line-ruled : (l : List ℕ) → Ruled (date_line l)
unfolding date_line
date-line-ruled l = then-ruled (has_fields 2 l) _ (has-fields-ruled 2 l) (stamp-ruled (read_date (field_at 1 l)) (read_time (field_at 2 l)))

pub kind-line-ruled : (e : Edition) (l : List ℕ) → Ruled (kind_line e l)
unfolding kind_line
kind-line-ruled e l = then-ruled (has_fields 1 l) _ (has-fields-ruled 1 l) (value-ruled 1 (lit≤ tt) (of_edition e (read_kind (field_at 1 l))))

pub multiplier-ruled : (l : List ℕ) → Ruled (multiplier_line l)
unfolding multiplier_line
multiplier-ruled l = then-ruled (has_fields 1 l) _ (has-fields-ruled 1 l) (faultless-ruled 1 (lit≤ tt) above_fault l above-check)

pub codes-ruled : (l : List ℕ) → Ruled (codes_line l)
unfolding codes_line
codes-ruled l =
    then-ruled (has_fields 2 l) _ (has-fields-ruled 2 l)
    (bind-ruled (code_at 1 (read_code (field_at 1 l))) _ (code-ruled 1 (lit≤ tt) (read_code (field_at 1 l))) (λ m.
    bind-ruled (local_at 2 (read_local_code (field_at 2 l))) _ (local-ruled 2 (lit≤ tt) (read_local_code (field_at 2 l))) (λ n. tt)))

pub quality-ruled : (l : List ℕ) → Ruled (quality_line l)
unfolding quality_line
quality-ruled l =
    then-ruled (has_fields 2 l) _ (has-fields-ruled 2 l)
    (bind-ruled (value 1 read_quality l) _ (value-ruled 1 (lit≤ tt) (read_quality (field_at 1 l))) (λ q.
    bind-ruled (value 2 read_leap l) _ (value-ruled 2 (lit≤ tt) (read_leap (field_at 2 l))) (λ p. tt)))
