-- Lines as they are written by example, each computed.
--     examples      numbers and codes lose their leading spaces, names keep theirs; the kind's line is its word
-- Assumes nothing.
use mathlib.Core.Path.{◌≡◌, refl}
use Rattle.ground.specs.Quoted.{quoted}
use Rattle.text.specs.Fields.{after_fields, field_at, joined}
use Rattle.model.specs.declared.Kind.TheVariants.{Ascii, Binary}
use Rattle.model.specs.Kinds.{kind_name}
use Rattle.rewrite_lines.specs.declared.LineSort.TheVariants.{Kept, Numbers, Analog, Status, Word}
use Rattle.rewrite_lines.specs.Lines.{is_number, fields_text, line_text}

pub examples :
    -- TT, A and D
    (line_text Binary Numbers (quoted "     2,     1A, 1D") ≡ quoted "2,1A,1D")
    -- an analog channel: its name, phase, circuit and unit keep their spaces, a plus and zeros stay
    × (line_text Binary Analog (quoted "     1, Ia, A,  , A, 0.5, +0, 00,-2048, 2047,  400, 1,S") ≡ quoted "1, Ia, A,  , A,0.5,+0,00,-2048,2047,400,1,S")
    -- a status channel
    × (line_text Binary Status (quoted " 01, Trip,,,0") ≡ quoted "01, Trip,,,0")
    -- a local code x
    × (line_text Binary Numbers (quoted "  -0,     x") ≡ quoted "-0,x")
    -- the kind
    × (line_text Binary Word (quoted "aScIi") ≡ quoted "binary")
    -- the station
    × (line_text Ascii Kept (quoted " Bench 2, R7,2013") ≡ quoted " Bench 2, R7,2013")
unfolding line_text fields_text is_number joined after_fields field_at kind_name
examples = (refl, refl, refl, refl, refl, refl)
