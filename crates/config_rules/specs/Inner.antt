-- NOTHING TO BELIEVE HERE: what each function of the code says, line by line; the law `paper-agrees` (proofs/PaperLaws.antt) of the crate `config` says that all of them together are `read_config`.
-- A configuration is read line by line. The rule of a line says what the line must be, what it adds to the configuration, and which rule comes next.
use Rattle.ground.specs.Said.{Said, says, ◌>>=◌, ◌>>◌}
use Rattle.std.specs.Prelude.{Bool, List, ℕ, ◌+◌, ◌-◌, eqb, ltb, ℤ, set, if◌then◌else◌}
use Rattle.model.specs.declared.Edition.{Edition}
use Rattle.model.specs.declared.Edition.TheVariants.{Y2013, Y1999}
use Rattle.line_fields.specs.declared.Fault.{Fault}
use Rattle.channel_lines.specs.Channels.{channels_line, analog_line, status_line}
use Rattle.config_lines.specs.Lines.{station_line, frequency_line, rates_line, rate_line, date_line, kind_line, multiplier_line, codes_line, quality_line}
use Rattle.std.specs.Prelude.{None, Option, Some, Result, Ok, Err}
use Rattle.clock.specs.declared.Moment.{Moment}
use Rattle.config_rules.specs.declared.LastLines.{LastLines}
use Rattle.clock.specs.declared.Span.{Span}
use Rattle.clock.specs.Spans.{Calendar, pretrigger_of}
use Rattle.config_rules.specs.declared.Config.{Config}
use Rattle.config_rules.specs.declared.Rule.{Rule}
use Rattle.config_rules.specs.declared.Rule.TheVariants.{Station, Counts, Analog, Status, Frequency, RateCount, Rate, First, Trigger, KindWord, Multiplier, Codes, Quality, Done}
use Rattle.config_rules.specs.Shown.{with_layout, with_kind}

-- the line after that of status channel i; where i is 0, the line before the first of them
unfoldable pub after_status : ℕ → ℕ → Rule
after_status i statuses = if ltb i statuses then Status (i + 1) else Frequency

-- the line after that of analog channel i
unfoldable pub after_analog : ℕ → ℕ → ℕ → Rule
after_analog i analogs statuses = if ltb i analogs then Analog (i + 1) else after_status 0 statuses

-- the line after that of rate i, counted from 0
unfoldable pub after_rate : ℕ → ℕ → Rule
after_rate i rates = if ltb i (rates - 1) then Rate (i + 1) else First

-- the line after the time multiplier's: 1999 has none
unfoldable pub after_multiplier : Edition → Rule
after_multiplier Y2013 = Codes
after_multiplier Y1999 = Done

-- A configuration in which some values are replaced
-- the edition
unfoldable pub with_edition : Edition → Config → Config
with_edition e c = with_layout (record { analogs = c.layout.analogs; statuses = c.layout.statuses; rows = c.layout.rows; kind = c.layout.kind; edition = e }) c

-- A and D
unfoldable pub with_counts : ℕ → ℕ → Config → Config
with_counts a d c = with_layout (record { analogs = a; statuses = d; rows = c.layout.rows; kind = c.layout.kind; edition = c.layout.edition }) c

-- the number of rates
unfoldable pub with_rates : ℕ → Config → Config
with_rates r c =
    record {
      layout = c.layout;
      rates = r;
      lasts = c.lasts;
      first = c.first;
      trigger = c.trigger;
      pretrigger = c.pretrigger;
      last = c.last;
    }

-- last rows, and the number of rows
abbrev pub with_rows : List ℕ → ℕ → Config → Config
with_rows lasts v c =
    record {
      layout = record { analogs = c.layout.analogs; statuses = c.layout.statuses; rows = v; kind = c.layout.kind; edition = c.layout.edition };
      rates = c.rates;
      lasts = lasts;
      first = c.first;
      trigger = c.trigger;
      pretrigger = c.pretrigger;
      last = c.last;
    }

-- rate i's last row
unfoldable pub with_last : ℕ → ℕ → Config → Config
with_last i v c = with_rows (set c.lasts i v) v c

-- the two date lines, and the time between them
abbrev pub with_stamps : Option Moment → Option Moment → Option Span → Config → Config
with_stamps first trigger pretrigger c =
    record {
      layout = c.layout;
      rates = c.rates;
      lasts = c.lasts;
      first = first;
      trigger = trigger;
      pretrigger = pretrigger;
      last = c.last;
    }

-- what the last lines say
abbrev pub with_end : Option LastLines → Config → Config
with_end e c =
    record {
      layout = c.layout;
      rates = c.rates;
      lasts = c.lasts;
      first = c.first;
      trigger = c.trigger;
      pretrigger = c.pretrigger;
      last = e;
    }

-- the time codes, zeros for what the line after them says
unfoldable pub with_codes : ℤ → Bool → ℤ → Config → Config
with_codes t x m c = with_end (Some (record { code = t; x = x; local = m; quality = 0; leap = 0 })) c

-- the last lines with quality and leap code
unfoldable pub qualified : ℕ → ℕ → Option LastLines → Option LastLines
qualified q p (Some e) = Some (record { code = e.code; x = e.x; local = e.local; quality = q; leap = p })
qualified q p None = None

-- quality and leap code
unfoldable pub with_quality : ℕ → ℕ → Config → Config
with_quality q p c = with_end (qualified q p c.last) c

-- a line that was judged and is fine: the rule of the line after it, and what is shown so far
pub record Taken : Type 0 where
  pub rule : Rule
  pub config : Config

-- these two
abbrev pub taken : Rule → Config → Taken
taken rule config = record { rule = rule; config = config }

-- what the code answers, the rule of the line after it or a fault, and what is shown so far beside it
abbrev pub taken_by : Result Rule Fault → Config → Result Taken Fault
taken_by (Ok rule) c = Ok (taken rule c)
taken_by (Err f) c = Err f

-- a line by its rule
unfoldable pub take_line : Rule → Config → List ℕ → Said Fault Taken
take_line Station c l = do
  edition ← station_line l
  says (taken Counts (with_edition edition c))
take_line Counts c l = do
  (a, d) ← channels_line l
  says (taken (after_analog 0 a d) (with_counts a d c))
take_line (Analog i) c l = do
  analog_line i l
  says (taken (after_analog i c.layout.analogs c.layout.statuses) c)
take_line (Status i) c l = do
  status_line i l
  says (taken (after_status i c.layout.statuses) c)
take_line Frequency c l = do
  frequency_line l
  says (taken RateCount c)
take_line RateCount c l = do
  rates ← rates_line l
  says (taken (Rate 0) (with_rates rates c))
take_line (Rate i) c l = do
  last ← rate_line (eqb c.rates 0) c.layout.rows l
  says (taken (after_rate i c.rates) (with_last i last c))
take_line First c l = do
  first ← date_line l
  says (taken Trigger (with_stamps first None None c))
take_line Trigger c l = do
  trigger ← date_line l
  says (taken KindWord (with_stamps c.first trigger (pretrigger_of c.first trigger) c))
take_line KindWord c l = do
  kind ← kind_line c.layout.edition l
  says (taken Multiplier (with_kind kind c))
take_line Multiplier c l = do
  multiplier_line l
  says (taken (after_multiplier c.layout.edition) c)
take_line Codes c l = do
  (code, x, local) ← codes_line l
  says (taken Quality (with_codes code x local c))
take_line Quality c l = do
  (quality, leap) ← quality_line l
  says (taken Done (with_quality quality leap c))
take_line Done c l = says (taken Done c)

-- the trigger's line comes after a first sample of the calendar, or of no date
unfoldable pub Ready : Rule → Config → Type 0
Ready Station c = Unit {0}
Ready Counts c = Unit {0}
Ready (Analog i) c = Unit {0}
Ready (Status i) c = Unit {0}
Ready Frequency c = Unit {0}
Ready RateCount c = Unit {0}
Ready (Rate i) c = Unit {0}
Ready First c = Unit {0}
Ready Trigger c = Calendar c.first
Ready KindWord c = Unit {0}
Ready Multiplier c = Unit {0}
Ready Codes c = Unit {0}
Ready Quality c = Unit {0}
Ready Done c = Unit {0}
