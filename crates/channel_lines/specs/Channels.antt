-- The lines that speak of channels: the counts, and a line for each channel. Their fields from the left, each with its rule.
use Rattle.std.specs.Prelude.{not, List, ℕ, ◌+◌, eqb}
use Rattle.ground.specs.Said.{Said, says, ◌>>=◌, ◌>>◌, must}
use Rattle.text.specs.Fields.{field_at}
use Rattle.fields.specs.Fields.{read_count_in, read_lettered}
use Rattle.reals.specs.Exact.{read_limit, max_below}
use Rattle.line_fields.specs.declared.Fault.{Fault}
use Rattle.line_fields.specs.Faults.{text_fault, index_fault, real_fault, side_fault, state_fault}
use Rattle.line_fields.specs.Checks.{fault, has_fields, faultless, value_at, value}

-- TT, A followed by "A", D followed by "D"; TT is their sum. A and D are said
unfoldable pub channels_line : List ℕ → Said Fault (ℕ × ℕ)
channels_line l = do
  has_fields 3 l
  t ← value 1 (read_count_in 6 1 352) l
  a ← value 2 (read_lettered 65 96) l
  d ← value 3 (read_lettered 68 256) l
  must (eqb t (a + d)) (fault 7 3)
  says (a, d)

-- a channel's line of n fields: index, name, phase, circuit
unfoldable pub names : ℕ → ℕ → List ℕ → Said Fault (Unit {0})
names n i l = do
  has_fields n l
  faultless 1 (index_fault i) l
  faultless 2 (text_fault 1 128) l
  faultless 3 (text_fault 0 2) l
  faultless 4 (text_fault 0 64) l

-- unit, a, b, skew
unfoldable pub scale : List ℕ → Said Fault (Unit {0})
scale l = do
  faultless 5 (text_fault 1 32) l
  faultless 6 real_fault l
  faultless 7 real_fault l
  faultless 8 real_fault l

-- min and max, of which max is not below min
unfoldable pub limits : List ℕ → Said Fault (Unit {0})
limits l = do
  min ← value_at 9 (read_limit (field_at 9 l))
  max ← value_at 10 (read_limit (field_at 10 l))
  must (not (max_below max min)) (fault 7 10)

-- analog channel i: index, name, phase, circuit, unit, a, b, skew, min, max, primary, secondary, p P s S
unfoldable pub analog_line : ℕ → List ℕ → Said Fault (Unit {0})
analog_line i l = do
  names 13 i l
  scale l
  limits l
  faultless 11 real_fault l
  faultless 12 real_fault l
  faultless 13 side_fault l

-- status channel i: index, name, phase, circuit, normal state
unfoldable pub status_line : ℕ → List ℕ → Said Fault (Unit {0})
status_line i l = do
  names 5 i l
  faultless 5 state_fault l
