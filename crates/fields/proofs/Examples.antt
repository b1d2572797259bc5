-- A field by example, computed.
--     example      a hexadecimal digit of the time quality counts in either case
-- Assumes nothing.
use mathlib.Core.Path.{◌≡◌, refl}
use Rattle.ground.specs.Quoted.{quoted}
use Rattle.std.proofs.Common.{Ok}
use Rattle.fields.specs.Fields.{read_one_of, digit_value, read_digit_of, read_quality}

pub example : read_quality (quoted "f") ≡ Ok 15
unfolding read_one_of digit_value read_digit_of read_quality
example = refl
