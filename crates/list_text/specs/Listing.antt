-- The listing of a recording: its text, line by line.
use Rattle.std.specs.Prelude.{List, ◌++◌, ℕ, ◌+◌, leb, length, drop}
use Rattle.ground.specs.Said.{◌>>=◌, Said, says, refuses, ◌>>◌, must}
use Rattle.ground.specs.Tables.{cat}
use Rattle.ground.specs.Quoted.{quoted}
use Rattle.model.specs.declared.Layout.{Layout}
use Rattle.std.specs.Prelude.{Err, Ok, Result}
use Rattle.model.specs.declared.Refusal.{Refusal}
use Rattle.data.specs.Files.{check_file, row_at}
use Rattle.config.specs.Config.{read_config}
use Rattle.list_lines.specs.Lines.{head_line, row_line, refusal_line}

-- the lines of the first n rows of a data file
unfoldable pub rows_text : Layout → List ℕ → ℕ → List ℕ
rows_text l dat n = cat (λ i. row_line l (i + 1) (row_at l dat i)) n

-- what was answered, or the line of the refusal
abbrev pub accepted_or : {A : Type 0} → List ℕ → Result A Refusal → Said (List ℕ) A
accepted_or what (Ok a) = says a
accepted_or what (Err r) = refuses (refusal_line what r)

-- the text, or the line that stands in its place
abbrev pub listed : Said (List ℕ) (List ℕ) → List ℕ
listed (says text) = text
listed (refuses line) = line

-- what is said of a data file: its size, then its check, then its rows
unfoldable pub data_listing : Layout → List ℕ → List ℕ
data_listing l dat = listed (do
  must (leb (length dat) 65536) (quoted "no dat size\n")
  accepted_or (quoted "no dat ") (check_file l dat)
  says (head_line l ++ rows_text l dat l.rows))

-- what is said of a configuration and a data file: the configuration's refusal first
unfoldable pub listing : List ℕ → List ℕ → List ℕ
listing cfg dat = listed (do
  config ← accepted_or (quoted "no cfg ") (read_config cfg)
  says (data_listing config.layout dat))

-- what the room holds at the end: the listing, and then what stood there
unfoldable pub listed_to : List ℕ → List ℕ → List ℕ → List ℕ
listed_to cfg dat out = listing cfg dat ++ drop (length (listing cfg dat)) out
