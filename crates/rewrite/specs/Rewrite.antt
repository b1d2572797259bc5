-- A configuration written again in a kind: the kind's word, numbers and codes without leading spaces, all else as it stands, CR LF on each line.
use Rattle.std.specs.Prelude.{List, [], ◌∷◌, ◌++◌, ℕ, leb, length, take, drop}
use Rattle.ground.specs.Said.{Said, says, ◌>>=◌, ◌>>◌, must, answer_said}
use Rattle.model.specs.declared.Kind.{Kind}
use Rattle.model.specs.declared.Refusal.{Refusal}
use Rattle.model.specs.Editions.{has_kind}
use Rattle.model.specs.Refusals.{refused}
use Rattle.config_rules.specs.declared.Config.{Config}
use Rattle.config.specs.Config.{read_config}
use Rattle.rewrite_lines.specs.declared.LineSort.{LineSort}
use Rattle.rewrite_lines.specs.Lines.{line_text}
use Rattle.rewrite_sorts.specs.Sorts.{sorts}
use Rattle.rewrite_sorts.specs.Cuts.{cut_line}

-- lines of these sorts, with which s begins, each written anew by its sort, with CR LF
unfoldable pub lines_text : (LineSort → List ℕ → List ℕ) → List LineSort → List ℕ → List ℕ
lines_text anew [] s = []
lines_text anew (sort ∷ more) s = anew sort (take (cut_line s).len s) ++ (13 ∷ 10 ∷ lines_text anew more (drop (cut_line s).taken s))

-- the configuration as it is written
unfoldable pub rewritten : Config → Kind → List ℕ → List ℕ
rewritten c k s = lines_text (line_text k) (sorts c) s

-- what is to be written: 1 where it is longer than a configuration may be, then 17 where it is longer than the room
unfoldable pub result_said : List ℕ → ℕ → Said Refusal (List ℕ)
result_said new room = do
  must (leb (length new) 65536) (refused 1 0 0)
  must (leb (length new) room) (refused 17 0 0)
  says new

-- the bytes that are written: the reader's refusals, then 10 for a kind that the edition lacks, then those of the result
unfoldable pub rewrite_said : List ℕ → Kind → ℕ → Said Refusal (List ℕ)
rewrite_said s k room = do
  c ← answer_said (read_config s)
  must (has_kind c.layout.edition k) (refused 10 0 0)
  result_said (rewritten c k s) room
