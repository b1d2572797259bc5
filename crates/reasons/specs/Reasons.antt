-- What each refusal's number means, as text that a panel can show.
use Rattle.std.specs.Prelude.{List, ℕ, eqb, leb, length, if◌then◌else◌}
use Rattle.ground.specs.Quoted.{quoted}
use Rattle.ground.specs.Said.{Said, says, refuses, ◌>>=◌, ◌>>◌, must}
use Rattle.model.specs.declared.Refusal.{Refusal}
use Rattle.model.specs.Refusals.{refused}

-- the meaning of a number; 10 for a number that no refusal has
unfoldable pub reason_of : ℕ → Said Refusal (List ℕ)
reason_of n =
    if eqb n 1 then says (quoted "a configuration, read or to be written, of more than 65,536 bytes")
    else if eqb n 2 then says (quoted "the file ends before or inside a line")
    else if eqb n 3 then says (quoted "a byte outside 32 to 126 before the end of the line")
    else if eqb n 4 then says (quoted "wrong number of fields")
    else if eqb n 5 then says (quoted "wrong length or form of a field")
    else if eqb n 6 then says (quoted "a number, date, kind or code that is not allowed")
    else if eqb n 7 then says (quoted "a total, index, last row or maximum that does not agree")
    else if eqb n 8 then says (quoted "an edition that is not 2013 or 1999")
    else if eqb n 9 then says (quoted "bytes after the last line")
    else if eqb n 10 then says (quoted "sizes, kind or edition not allowed")
    else if eqb n 11 then says (quoted "wrong length of the file")
    else if eqb n 12 then says (quoted "a row number that is not the row's")
    else if eqb n 13 then says (quoted "a padding bit is set")
    else if eqb n 14 then says (quoted "a text row or field is bad")
    else if eqb n 15 then says (quoted "no such row")
    else if eqb n 16 then says (quoted "a number does not fit its field")
    else if eqb n 17 then says (quoted "no room")
    else refuses (refused 10 0 0)

-- a text, where there is room for so many bytes
unfoldable pub text_said : List ℕ → ℕ → Said Refusal (List ℕ)
text_said text room = do
  must (leb (length text) room) (refused 17 0 0)
  says text

-- the meaning of a number, where there is room for so many bytes: 10 for a number that no refusal has, then 17
unfoldable pub reason_said : ℕ → ℕ → Said Refusal (List ℕ)
reason_said n room = do
  text ← reason_of n
  text_said text room
