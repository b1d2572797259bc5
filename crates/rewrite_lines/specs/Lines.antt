-- A line of a configuration as it is written again: numbers and codes lose their leading spaces, the kind's line is its word, and all else stays as it stands.
use Rattle.std.specs.Prelude.{Bool, true, false, ◌&&◌, ◌||◌, List, ℕ, ◌+◌, eqb, leb, drop, if◌then◌else◌}
use Rattle.text.specs.Fields.{commas, field_at, joined}
use Rattle.numerals.specs.Counts.{leading_spaces}
use Rattle.model.specs.declared.Kind.{Kind}
use Rattle.model.specs.Kinds.{kind_name}
use Rattle.rewrite_lines.specs.declared.LineSort.{LineSort}
use Rattle.rewrite_lines.specs.declared.LineSort.TheVariants.{Kept, Numbers, Analog, Status, Word}

-- field i of a line, counted from 1, is a number or a code
unfoldable pub is_number : LineSort → ℕ → Bool
is_number Kept i = false
is_number Numbers i = true
-- of an analog channel its index; a, b, skew, min, max, primary and secondary
is_number Analog i = eqb i 1 || (leb 6 i && leb i 12)
-- of a status channel its index
is_number Status i = eqb i 1
is_number Word i = false

-- a field without its leading spaces
abbrev pub bare : List ℕ → List ℕ
bare f = drop (leading_spaces f) f

-- a field as it is written
abbrev pub field_text : Bool → List ℕ → List ℕ
field_text number f = if number then bare f else f

-- the fields of a line as they are written, with the commas between them
unfoldable pub fields_text : LineSort → List ℕ → List ℕ
fields_text sort x = joined (λ i. field_text (is_number sort (i + 1)) (field_at (i + 1) x)) (commas x)

-- a line as it is written
unfoldable pub line_text : Kind → LineSort → List ℕ → List ℕ
line_text k Kept x = x
line_text k Numbers x = fields_text Numbers x
line_text k Analog x = fields_text Analog x
line_text k Status x = fields_text Status x
line_text k Word x = kind_name k
