-- A plain row by example, computed.
--     example              the row that clause 8 of the standard shows, its spaces left out
--     missing-example      a missing sample, and the lowest that is there
--     mark-example         the same in the text of 1999
-- Assumes nothing.
use mathlib.Core.Path.{◌≡◌, refl}
use mathlib.Core.Bool.{true, false}
use mathlib.Core.List.{[], ◌∷◌}
use lib.IntN.{pos, negsuc}
use Rattle.ground.specs.Quoted.{quoted}
use Rattle.words.specs.Signed.{is_lowest}
use Rattle.numerals.specs.Decimals.{decimal_in, decimal, plain}
use Rattle.model.specs.declared.Kind.TheVariants.{Ascii}
use Rattle.model.specs.declared.Edition.TheVariants.{Y2013, Y1999}
use Rattle.model.specs.Samples.{missing, is_missing, marked}
use Rattle.ascii_plain.specs.Rows.{sample_chars, line_of, text_of}

pub example :
    text_of
    (record { analogs = 6; statuses = 6; rows = 5; kind = Ascii; edition = Y2013 })
    5
    (record {
      time = 667;
      samples = negsuc 759 ∷ pos 1274 ∷ pos 72 ∷ pos 61 ∷ negsuc 139 ∷ negsuc 501 ∷ [];
      statuses = false ∷ false ∷ false ∷ false ∷ true ∷ true ∷ [];
    })
    ≡ quoted "5,667,-760,1274,72,61,-140,-502,0,0,0,0,1,1\r\n"
unfolding decimal_in decimal plain is_lowest is_missing marked sample_chars line_of text_of
example = refl

pub missing-example :
    text_of
    (record { analogs = 2; statuses = 1; rows = 1; kind = Ascii; edition = Y2013 })
    1
    (record { time = 7; samples = missing ∷ negsuc 2147483646 ∷ []; statuses = true ∷ [] })
    ≡ quoted "1,7,,-2147483647,1\r\n"
unfolding decimal_in decimal plain is_lowest is_missing marked sample_chars line_of text_of
missing-example = refl

pub mark-example :
    text_of
    (record { analogs = 2; statuses = 1; rows = 1; kind = Ascii; edition = Y1999 })
    1
    (record { time = 7; samples = missing ∷ negsuc 99998 ∷ []; statuses = true ∷ [] })
    ≡ quoted "1,7,99999,-99999,1\r\n"
unfolding decimal_in decimal plain is_lowest is_missing marked sample_chars line_of text_of
mark-example = refl
