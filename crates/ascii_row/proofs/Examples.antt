-- Samples of a text by example, computed.
--     empty-missing            an empty field is a missing sample
--     space-bad                a field of a space is not
--     lowest-read              the lowest sample
--     below-bad, zeros-bad     the number below it is none, with zeros in front neither
--     last_empty               a line that ends with an empty sample has all its fields
--     mark-missing             in the text of 1999 the number 99999 is a missing sample, however it is written
--     beside-mark              99998 and -99999 are samples there; 100000, -100000 and an empty field are bad
--     mark-2013                in the text of 2013 it is a number
-- Assumes nothing.
use mathlib.Core.Path.{◌≡◌, refl}
use mathlib.Core.List.{List}
use Prim.Native.Nat.{ℕ}
use lib.IntN.{pos, negsuc}
use Rattle.ground.specs.Quoted.{quoted}
use Rattle.ground.specs.Said.{says}
use Rattle.text.specs.Fields.{field_count, after_fields, field_at}
use Rattle.std.proofs.Common.{None, Option, Some, ℤ}
use Rattle.numerals.specs.Counts.{length_in, is_digit, number_of, read_count}
use Rattle.numerals.specs.Wholes.{sign_length, has_minus, with_sign, signed_number, read_whole}
use Rattle.model.specs.declared.Layout.{Layout}
use Rattle.model.specs.declared.Kind.TheVariants.{Ascii}
use Rattle.model.specs.declared.Edition.{Edition}
use Rattle.model.specs.declared.Edition.TheVariants.{Y2013, Y1999}
use Rattle.model.specs.Samples.{missing, holds, marked, is_mark}
use Rattle.ascii_row.specs.Fields.{read_timestamp, is_missing_field, read_sample}
use Rattle.ascii_row.specs.Rows.{field_fine, check_fields, check_number, check_line}

-- one sample and no status
abbrev text : Edition → Layout
text e = record { analogs = 1; statuses = 0; rows = 1; kind = Ascii; edition = e }

abbrev sample : List ℕ → Option ℤ
sample f = read_sample (text Y2013) f

abbrev sample-1999 : List ℕ → Option ℤ
sample-1999 f = read_sample (text Y1999) f

pub empty-missing : sample (quoted "") ≡ Some missing
unfolding read_sample is_missing_field marked
empty-missing = refl

pub space-bad : sample (quoted " ") ≡ None
unfolding read_sample is_missing_field marked read_whole length_in signed_number sign_length has_minus with_sign number_of is_digit
space-bad = refl

pub lowest-read : sample (quoted "-2147483647") ≡ Some (negsuc 2147483646)
unfolding read_sample is_missing_field marked holds read_whole length_in signed_number sign_length has_minus with_sign number_of is_digit
lowest-read = refl

pub below-bad : sample (quoted "-2147483648") ≡ None
unfolding read_sample is_missing_field marked holds read_whole length_in signed_number sign_length has_minus with_sign number_of is_digit
below-bad = refl

pub zeros-bad : sample (quoted "-002147483648") ≡ None
unfolding read_sample is_missing_field marked holds read_whole length_in signed_number sign_length has_minus with_sign number_of is_digit
zeros-bad = refl

pub last_empty : check_line (text Y2013) 1 (quoted "1,7,") ≡ says tt
unfolding check_line check_number check_fields field_fine field_count after_fields field_at read_timestamp read_sample is_missing_field marked read_count length_in number_of is_digit
last_empty = refl

pub mark-missing :
    (sample-1999 (quoted "99999") ≡ Some missing) × (sample-1999 (quoted "+99999") ≡ Some missing)
    × (sample-1999 (quoted "  99999") ≡ Some missing) × (sample-1999 (quoted "0000000099999") ≡ Some missing)
unfolding read_sample is_missing_field marked is_mark read_whole length_in signed_number sign_length has_minus with_sign number_of is_digit
mark-missing = (refl, refl, refl, refl)

pub beside-mark :
    (sample-1999 (quoted "99998") ≡ Some (pos 99998)) × (sample-1999 (quoted "-99999") ≡ Some (negsuc 99998))
    × (sample-1999 (quoted "100000") ≡ None) × (sample-1999 (quoted "-100000") ≡ None) × (sample-1999 (quoted "") ≡ None)
unfolding read_sample is_missing_field marked is_mark holds read_whole length_in signed_number sign_length has_minus with_sign number_of is_digit
beside-mark = (refl, refl, refl, refl, refl)

pub mark-2013 : sample (quoted "99999") ≡ Some (pos 99999)
unfolding read_sample is_missing_field marked holds read_whole length_in signed_number sign_length has_minus with_sign number_of is_digit
mark-2013 = refl
