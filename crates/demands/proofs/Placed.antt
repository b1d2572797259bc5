-- The table "Numbers for no": each number with the place that it is given at. Here it stands as a predicate, and every part of the calls is shown to refuse so.
--     Placed                        the table
--     placed-tabled, placed-number  a refusal's reason is one of the 17, and its number 1 to 17
--     PlacedTo                      placed, with a number of at most so much
--     config-placed                 reading a configuration
--     file-placed, fits-placed      the check of a data file, and of the samples of its rows
-- Assumes nothing.
use mathlib.Core.Bool.{Bool, true, false}
use mathlib.Core.List.{List}
use Prim.Native.Nat.{ℕ, zero, suc, ◌+◌, ◌≤◌, max}
use native.Mathlib.Omega.{arith}
use lib.Dec.{lit≤, eqb, leb}
use lib.ListN.{length, take, drop}
use Rattle.ground.specs.Said.{Said, says, refuses, ◌>>=◌, ◌>>◌}
use Rattle.ground.proofs.RefusalLaws.{RefusesOnly, only-must, only_then}
use Rattle.std.proofs.Common.{Err, Ok, Result}
use Rattle.text.specs.declared.LineError.{LineError}
use Rattle.text.specs.declared.Line.{Line}
use Rattle.text.specs.declared.LineError.TheVariants.{Bad, Ends}
use Rattle.text.specs.Lines.{scan_line, scan_last_line}
use Rattle.line_fields.specs.declared.Fault.{Fault}
use Rattle.channel_lines.specs.Channels.{channels_line, analog_line, status_line}
use Rattle.config_lines.specs.Lines.{station_line, frequency_line, rates_line, rate_line, date_line, kind_line, multiplier_line, codes_line, quality_line}
use Rattle.line_fields.proofs.PlaceLaws.{FaultPlaced, whole, form, range, agreement, year, Ruled}
use Rattle.channel_lines.proofs.PlaceLaws.{channels-ruled, analog-ruled, status-ruled}
use Rattle.config_lines.proofs.PlaceLaws.{station-ruled, frequency-ruled, rates-ruled, rate-ruled, date-line-ruled, kind-line-ruled, multiplier-ruled, codes-ruled, quality-ruled}
use Rattle.model.specs.declared.Edition.{Edition}
use Rattle.model.specs.declared.Edition.TheVariants.{Y2013, Y1999}
use Rattle.model.specs.declared.Layout.{Layout}
use Rattle.model.specs.declared.Row.{Row}
use Rattle.model.specs.declared.Refusal.{Refusal}
use Rattle.model.specs.Refusals.{refused, reason_number}
use Rattle.model.proofs.NumberLaws.{RefusalTabled, tabled-number}
use Rattle.config_rules.specs.declared.Config.{Config}
use Rattle.config.specs.Reading as reading
use Rattle.config.specs.Reading.{Place, said_of, in_line, scanned, line, last_line, times, refused_in}
use Rattle.config.specs.Config.{last_rows, size, last_lines, nothing_more, configuration}
use Rattle.binary_file.specs.Files.{check_binary}
use Rattle.binary_file.proofs.Laws as binary-laws
use Rattle.ascii_file.specs.Files.{check_text}
use Rattle.ascii_file.proofs.Laws as text-laws
use Rattle.row_bytes.proofs.KindLaws.{kind-only}
use Rattle.data.specs.Files.{file_fine, misfit_of}
use Rattle.change_length.specs.Needed.{fit_row, fit_rows}

-- the numbers for "no", each at its place: line and field, or row and field; both count from 1
pub data Placed : Refusal → Type 0 where
  configuration-size : Placed (refused 1 0 0)
  line-ends : (n : ℕ) → 1 ≤ n → Placed (refused 2 n 0)
  line-byte : (n : ℕ) → 1 ≤ n → Placed (refused 3 n 0)
  line-fields : (n : ℕ) → 1 ≤ n → Placed (refused 4 n 0)
  field-form : (n k : ℕ) → 1 ≤ n → 1 ≤ k → Placed (refused 5 n k)
  field-range : (n k : ℕ) → 1 ≤ n → 1 ≤ k → Placed (refused 6 n k)
  field-agrees : (n k : ℕ) → 1 ≤ n → 1 ≤ k → Placed (refused 7 n k)
  field-year : (n k : ℕ) → 1 ≤ n → 1 ≤ k → Placed (refused 8 n k)
  bytes_after : (n : ℕ) → 1 ≤ n → Placed (refused 9 n 0)
  sizes-or-kind : Placed (refused 10 0 0)
  file-length : Placed (refused 11 0 0)
  row_ends : (n : ℕ) → 1 ≤ n → Placed (refused 11 n 0)
  row-number : (n : ℕ) → 1 ≤ n → Placed (refused 12 n 1)
  row-padding : (n : ℕ) → 1 ≤ n → Placed (refused 13 n 0)
  row-text : (n k : ℕ) → 1 ≤ n → Placed (refused 14 n k)
  no_row : Placed (refused 15 0 0)
  sample-unfit : (n k : ℕ) → 1 ≤ n → 1 ≤ k → Placed (refused 16 n k)
  no-room : Placed (refused 17 0 0)

pub placed-tabled : {r : Refusal} → Placed r → RefusalTabled r
placed-tabled configuration-size = tt
placed-tabled (line-ends n h) = tt
placed-tabled (line-byte n h) = tt
placed-tabled (line-fields n h) = tt
placed-tabled (field-form n k h i) = tt
placed-tabled (field-range n k h i) = tt
placed-tabled (field-agrees n k h i) = tt
placed-tabled (field-year n k h i) = tt
placed-tabled (bytes_after n h) = tt
placed-tabled sizes-or-kind = tt
placed-tabled file-length = tt
placed-tabled (row_ends n h) = tt
placed-tabled (row-number n h) = tt
placed-tabled (row-padding n h) = tt
placed-tabled (row-text n k h) = tt
placed-tabled no_row = tt
placed-tabled (sample-unfit n k h i) = tt
placed-tabled no-room = tt

pub placed-number : {r : Refusal} → Placed r → (1 ≤ reason_number r.reason) × (reason_number r.reason ≤ 17)
placed-number p = let t = tabled-number _ (placed-tabled p) in (t.0, t.1)

-- placed, and of a number of at most so much
abbrev pub PlacedTo : ℕ → Refusal → Type 0
PlacedTo most r = Placed r × (reason_number r.reason ≤ most)

-- A DATA FILE
text-placed : (l : Layout) (s : List ℕ) → RefusesOnly (PlacedTo 16) (check_text l s)
text-placed l s =
    text-laws.file-only (PlacedTo 16) (λ n h. (row_ends n h, lit≤ tt)) (λ n k h. (row-text n k h, lit≤ tt)) (λ n h. (row-number n h, lit≤ tt)) l s

binary-placed : (l : Layout) (s : List ℕ) → RefusesOnly (PlacedTo 16) (check_binary l s)
binary-placed l s = binary-laws.file-only (PlacedTo 16) (λ n h. (row-number n h, lit≤ tt)) (λ n h. (row-padding n h, lit≤ tt)) (file-length, lit≤ tt) l s

pub file-placed : (l : Layout) (s : List ℕ) → RefusesOnly (PlacedTo 16) (file_fine l s)
unfolding file_fine
file-placed l s = kind-only (PlacedTo 16) l.kind (check_text l s) (check_binary l s) (text-placed l s) (binary-placed l s)

pub fits-placed : (l : Layout) (r : ℕ → Row) (i m : ℕ) → RefusesOnly (PlacedTo 16) (fit_rows l r i m)
unfolding fit_rows
fits-placed l r i zero = tt
fits-placed l r i (suc m) =
    let bad = misfit_of l (r i) in
    only_then (PlacedTo 16) (fit_row l (i + 1) (r i)) (fit_rows l r (i + 1) m)
    (only-must (PlacedTo 16) (eqb bad l.analogs) (refused 16 (i + 1) (3 + bad)) (λ e. (sample-unfit (i + 1) (3 + bad) (omega arith) (omega arith), lit≤ tt)))
    (λ e. fits-placed l r (i + 1) m)

-- A CONFIGURATION
-- it is told with the line's number
at-line : {f : Fault} (n : ℕ) → 1 ≤ n → FaultPlaced f → Placed (refused_in n f)
at-line n h whole = line-fields n h
at-line n h (form k i) = field-form n k h i
at-line n h (range k i) = field-range n k h i
at-line n h (agreement k i) = field-agrees n k h i
at-line n h (year k i) = field-year n k h i

-- what is read from a line on: a refusal is placed, and the next line is counted from 1
Read : {A : Type 0} → Said Refusal (A × Place) → Type 0
Read (says r) = 1 ≤ r.1.0
Read (refuses r) = PlacedTo 9 r

read-bind : {A B : Type 0} (x : Said Refusal (A × Place)) (f : A × Place → Said Refusal (B × Place)) → Read x → ((r : A × Place) → 1 ≤ r.1.0 → Read (f r))
    → Read (x >>= f)
unfolding Read
read-bind (says r) f h k = k r h
read-bind (refuses r) f h k = h

in-line : {A : Type 0} (n : ℕ) (after : Place) (x : Said Fault A) → 1 ≤ n → 1 ≤ after.0 → Ruled x → Read (in_line n after x)
unfolding Read
in-line n after (says a) h k p = k
in-line n after (refuses f) h k p = (at-line n h p, small p)
  where
    small : {f : Fault} → FaultPlaced f → reason_number f.reason ≤ 9
    small whole = lit≤ tt
    small (form k i) = lit≤ tt
    small (range k i) = lit≤ tt
    small (agreement k i) = lit≤ tt
    small (year k i) = lit≤ tt

read-scanned : {A : Type 0} (rule : List ℕ → Said Fault A) → ((l : List ℕ) → Ruled (rule l)) → (n : ℕ) (s : List ℕ) (t : Result Line LineError) → 1 ≤ n → Read (scanned rule (n, s) t)
unfolding Read
read-scanned rule p n s (Ok one) h = in-line n (n + 1, drop one.taken s) (rule (take one.len s)) h (omega arith) (p (take one.len s))
read-scanned rule p n s (Err Ends) h = (line-ends n h, lit≤ tt)
read-scanned rule p n s (Err Bad) h = (line-byte n h, lit≤ tt)

read-line : {A : Type 0} (rule : List ℕ → Said Fault A) → ((l : List ℕ) → Ruled (rule l)) → (p : Place) → 1 ≤ p.0 → Read (line rule p)
read-line rule r (n, s) h = read-scanned rule r n s (scan_line (length s) s) h

read-last : {A : Type 0} (rule : List ℕ → Said Fault A) → ((l : List ℕ) → Ruled (rule l)) → (p : Place) → 1 ≤ p.0 → Read (last_line rule p)
read-last rule r (n, s) h = read-scanned rule r n s (scan_last_line (length s) s) h

read_done : {A : Type 0} (a : A) (p : Place) → 1 ≤ p.0 → Read (says (a, p))
unfolding Read
read_done a p h = h

read-times : (rule : ℕ → List ℕ → Said Fault (Unit {0})) → ((i : ℕ) (l : List ℕ) → Ruled (rule i l)) → (m i : ℕ) (p : Place) → 1 ≤ p.0 → Read (times m i (λ j. line (rule j)) p)
read-times rule r zero i p h = read_done tt p h
read-times rule r (suc m) i p h = read-bind (line (rule i) p) _ (read-line (rule i) (r i) p h) (λ u k. read-times rule r m (i + 1) u.1 k)

read-lasts : (none : Bool) (m before : ℕ) (p : Place) → 1 ≤ p.0 → Read (last_rows none m before p)
read-lasts none zero before p h = read_done _ p h
read-lasts none (suc m) before p h =
    read-bind (line (rate_line none before) p) _ (read-line (rate_line none before) (rate-ruled none before) p h) (λ v k.
    read-bind (last_rows none m v.0 v.1) _ (read-lasts none m v.0 v.1 k) (λ w i. read_done _ w.1 i))

-- a test before or after the lines
read-asking : (t : Bool) (r : Refusal) (p : Place) → 1 ≤ p.0 → PlacedTo 9 r → Read (reading.asking t r p)
unfolding Read
read-asking true r p h k = h
read-asking false r p h k = k

-- the time multiplier and what follows it
last-lines-read : (e : Edition) (p : Place) → 1 ≤ p.0 → Read (last_lines e p)
last-lines-read Y1999 p h = read-bind (last_line multiplier_line p) _ (read-last multiplier_line multiplier-ruled p h) (λ a ha. read_done _ a.1 ha)
last-lines-read Y2013 p h =
    read-bind (line multiplier_line p) _ (read-line multiplier_line multiplier-ruled p h) (λ a ha.
    read-bind (line codes_line a.1) _ (read-line codes_line codes-ruled a.1 ha) (λ b hb.
    read-bind (last_line quality_line b.1) _ (read-last quality_line quality-ruled b.1 hb) (λ c hc.
    read_done _ c.1 hc)))

all_read : (p : Place) → 1 ≤ p.0 → Read (configuration p)
unfolding configuration
all_read p h =
    read-bind (size p) _ (read-asking (leb (length p.1) 65536) (refused 1 0 0) p h (configuration-size, lit≤ tt)) (λ z hz.
    read-bind (line station_line z.1) _ (read-line station_line station-ruled z.1 hz) (λ a ha.
    read-bind (line channels_line a.1) _ (read-line channels_line channels-ruled a.1 ha) (λ b hb.
    read-bind (times b.0.0 1 (λ i. line (analog_line i)) b.1) _ (read-times analog_line analog-ruled b.0.0 1 b.1 hb) (λ c hc.
    read-bind (times b.0.1 1 (λ i. line (status_line i)) c.1) _ (read-times status_line status-ruled b.0.1 1 c.1 hc) (λ d hd.
    read-bind (line frequency_line d.1) _ (read-line frequency_line frequency-ruled d.1 hd) (λ e he.
    read-bind (line rates_line e.1) _ (read-line rates_line rates-ruled e.1 he) (λ f hf.
    read-bind (last_rows (eqb f.0 0) (max 1 f.0) 0 f.1) _ (read-lasts (eqb f.0 0) (max 1 f.0) 0 f.1 hf) (λ g hg.
    read-bind (line date_line g.1) _ (read-line date_line date-line-ruled g.1 hg) (λ i hi.
    read-bind (line date_line i.1) _ (read-line date_line date-line-ruled i.1 hi) (λ j hj.
    read-bind (line (kind_line a.0) j.1) _ (read-line (kind_line a.0) (kind-line-ruled a.0) j.1 hj) (λ k hk.
    read-bind (last_lines a.0 k.1) _ (last-lines-read a.0 k.1 hk) (λ n hn.
    read-bind (nothing_more n.1) _ (read-asking (eqb (length n.1.1) 0) (refused 9 n.1.0 0) n.1 hn (bytes_after n.1.0 hn, lit≤ tt)) (λ o ho.
    read_done _ o.1 ho)))))))))))))

pub config-placed : (s : List ℕ) → RefusesOnly (PlacedTo 9) (said_of (configuration (1, s)))
unfolding Read
config-placed s = go (configuration (1, s)) (all_read (1, s) (lit≤ tt))
  where
    go : (x : Said Refusal (Config × Place)) → Read x → RefusesOnly (PlacedTo 9) (said_of x)
    go (says (c, p)) h = tt
    go (refuses r) h = h
