-- Files of text: rows, each a line with CR LF, and what may follow the last.
use Rattle.std.specs.Prelude.{Bool, true, false, ◌&&◌, List, [], ◌∷◌, ◌++◌, ℕ, zero, suc, ◌+◌, eqb, take, drop}
use Rattle.ground.specs.Said.{Said, says, refuses, ◌>>=◌, ◌>>◌, must}
use Rattle.ground.specs.Tables.{cat}
use Rattle.std.specs.Prelude.{Err, Ok, Result}
use Rattle.text.specs.declared.LineError.{LineError}
use Rattle.text.specs.declared.Line.{Line}
use Rattle.text.specs.declared.LineError.TheVariants.{Bad, Ends}
use Rattle.text.specs.Lines.{scan_line}
use Rattle.model.specs.declared.Layout.{Layout}
use Rattle.model.specs.declared.Row.{Row}
use Rattle.model.specs.declared.Refusal.{Refusal}
use Rattle.model.specs.Refusals.{refused}
use Rattle.ascii_row.specs.Rows.{check_line, row_of}
use Rattle.ascii_plain.specs.Rows.{text_of}

-- the line that a text begins with, of at most 1,880 bytes before its CR LF
abbrev pub scan_row : List ℕ → Result Line LineError
scan_row s = scan_line 1880 s

-- how many bytes row n's line has: 11 where the text ends early, 14 at a bad byte or one too many
abbrev pub found : ℕ → Result Line LineError → Said Refusal ℕ
found n (Ok one) = says one.len
found n (Err Ends) = refuses (refused 11 n 0)
found n (Err Bad) = refuses (refused 14 n 0)

-- row n, with which s begins, is fine: how many bytes it takes with its CR LF
unfoldable pub take_row : Layout → ℕ → List ℕ → Said Refusal ℕ
take_row l n s = do
  len ← found n (scan_row s)
  check_line l n (take len s)
  says (len + 2)

-- what may follow the last row: nothing, 1A, or 1A 0D 0A
unfoldable pub is_ending : List ℕ → Bool
is_ending [] = true
is_ending (b ∷ []) = eqb b 26
is_ending (b ∷ c ∷ []) = false
is_ending (b ∷ c ∷ d ∷ []) = eqb b 26 && eqb c 13 && eqb d 10
is_ending (b ∷ c ∷ d ∷ e ∷ s) = false

-- what follows the last row, where row n would stand
abbrev pub check_end : ℕ → List ℕ → Said Refusal (Unit {0})
check_end n s = must (is_ending s) (refused 11 n 0)

-- m rows are fine, from row n on, with which s begins, and then its end
unfoldable pub check_lines : Layout → List ℕ → ℕ → ℕ → Said Refusal (Unit {0})
check_lines l s n zero = check_end n s
check_lines l s n (suc m) = do
  taken ← take_row l n s
  check_lines l (drop taken s) (n + 1) m

-- a file of text: row by row, then its end
unfoldable pub check_text : Layout → List ℕ → Said Refusal (Unit {0})
check_text l s = check_lines l s 1 l.rows

-- how many bytes a line that was found has
abbrev pub line_length : Result Line LineError → ℕ
line_length (Ok one) = one.len
line_length (Err e) = 0

-- how many it takes with its CR LF
abbrev pub line_taken : Result Line LineError → ℕ
line_taken (Ok one) = one.taken
line_taken (Err e) = 0

-- the line that a text begins with
unfoldable pub first_line : List ℕ → List ℕ
first_line s = take (line_length (scan_row s)) s

-- what follows the first i rows
unfoldable pub after_rows : ℕ → List ℕ → List ℕ
after_rows zero s = s
after_rows (suc i) s = after_rows i (drop (line_taken (scan_row s)) s)

-- row i of a text, counted from 0
unfoldable pub text_row : Layout → ℕ → List ℕ → Row
text_row l i s = row_of l (first_line (after_rows i s))

-- the end mark that is written
abbrev pub mark : List ℕ
mark = 26 ∷ 13 ∷ 10 ∷ []

-- the plain file whose rows are r 0, r 1, ..
abbrev pub text_file : Layout → (ℕ → Row) → List ℕ
text_file l r = cat (λ i. text_of l (i + 1) (r i)) l.rows ++ mark
