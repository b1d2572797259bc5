-- NOTHING TO BELIEVE HERE: the fields of a line in one walk over its bytes, as the code goes. The law `walked-fields` (proofs/WalkLaws.antt) says that they are `fields_text`.
use Rattle.std.specs.Prelude.{Bool, ◌&&◌, List, [], ◌∷◌, ℕ, ◌+◌, eqb, if◌then◌else◌}
use Rattle.rewrite_lines.specs.declared.LineSort.{LineSort}
use Rattle.rewrite_lines.specs.Lines.{is_number}

-- a byte of field i is left out: a space, where nothing but spaces stands before it in the field, and the field is a number
unfoldable pub is_left_out : LineSort → ℕ → Bool → ℕ → Bool
is_left_out sort i leads b = leads && (eqb b 32 && is_number sort i)

-- the field of the byte after a byte that stays in field i
unfoldable pub next_field : ℕ → ℕ → ℕ
next_field i b = if eqb b 44 then i + 1 else i

-- the bytes that stay of a line's rest, which begins in field i
abbrev pub walked : LineSort → ℕ → Bool → List ℕ → List ℕ
walked sort i leads [] = []
walked sort i leads (b ∷ l) = if is_left_out sort i leads b then walked sort i leads l else b ∷ walked sort (next_field i b) (eqb b 44) l
