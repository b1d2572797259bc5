-- Time codes by example, each computed.
--     examples      half an hour below zero; the local code that is x, behind a space
-- Assumes nothing.
use mathlib.Core.Path.{◌≡◌, refl}
use lib.IntN.{pos, neg_ℤ}
use Rattle.ground.specs.Quoted.{quoted}
use Rattle.numerals.specs.Counts.{length_in, is_digit, number_of}
use Rattle.numerals.specs.Wholes.{sign_length, has_minus}
use Rattle.patterns.specs.Patterns.{fits_character, fits_pattern, digits_at, between}
use Rattle.std.proofs.Common.{Ok}
use Rattle.codes.specs.declared.Code.TheVariants.{Minutes, X}
use Rattle.codes.specs.Codes.{signed_minutes, minutes_of, hours_and_minutes, hours_of, small_x, code_of, code_in, read_code, read_local_code}

pub examples : (read_code (quoted "-0h30") ≡ Ok (Minutes (neg_ℤ (pos 30)))) × (read_local_code (quoted " x") ≡ Ok X)
unfolding read_code read_local_code code_in length_in code_of small_x has_minus sign_length hours_and_minutes hours_of minutes_of signed_minutes
    fits_pattern fits_character between digits_at number_of is_digit
examples = (refl, refl)
