-- What the exported calls share: the answer that a call gives by what it says, and what they take as numbers.
-- What a call that writes says is its answer (`told_shown`, `told_written`), and what the lent buffer then holds (`over`).
use Rattle.std.specs.Prelude.{List, ℕ, leb, length}
use Rattle.ground.specs.Said.{Said, says, refuses, ◌>>◌, must}
use Rattle.model.specs.declared.Kind.{Kind}
use Rattle.std.specs.Prelude.{None, Option, Some}
use Rattle.model.specs.declared.Edition.{Edition}
use Rattle.model.specs.declared.Layout.{Layout}
use Rattle.model.specs.declared.Refusal.{Refusal}
use Rattle.model.specs.Kinds.{kind_of}
use Rattle.model.specs.Editions.{edition_of}
use Rattle.model.specs.Refusals.{refused, reason_number}
use Rattle.answers.specs.declared.zl_answer.{zl_answer}

-- yes, with so many bytes
abbrev pub yes : ℕ → zl_answer
yes m = record { number = 0; at = 0; field = 0; length = m }

-- no: the refusal's number and place
abbrev pub no : Refusal → zl_answer
no r = record { number = reason_number r.reason; at = r.at; field = r.field; length = 0 }

-- the answer of a call that has a length
abbrev pub told : Said Refusal ℕ → zl_answer
told (says m) = yes m
told (refuses r) = no r

-- the answer of a call that writes bytes: their length
abbrev pub told_written : Said Refusal (List ℕ) → zl_answer
told_written (says new) = yes (length new)
told_written (refuses r) = no r

-- the answer of a call that shows places: it has no length
abbrev pub told_shown : {A : Type 0} → Said Refusal (List A) → zl_answer
told_shown (says zs) = yes 0
told_shown (refuses r) = no r

-- what numbers say, a kind or a layout; 10 for a number that no kind has, and for a year that no edition has
abbrev pub known : {A : Type 0} → Option A → Said Refusal A
known (Some a) = says a
known None = refuses (refused 10 0 0)

-- the layout of three numbers, a kind and an edition
abbrev pub layout_by : ℕ → ℕ → ℕ → Kind → Edition → Layout
layout_by a d rows k e = record { analogs = a; statuses = d; rows = rows; kind = k; edition = e }

-- the same, where there is such a kind and such an edition
abbrev pub layout_in : ℕ → ℕ → ℕ → Option Kind → Option Edition → Option Layout
layout_in a d rows (Some k) (Some e) = Some (layout_by a d rows k e)
layout_in a d rows (Some k) None = None
layout_in a d rows None e = None

-- the layout of five numbers: the kind by its number, the edition by its year
unfoldable pub layout_of : ℕ → ℕ → ℕ → ℕ → ℕ → Option Layout
layout_of a d rows kind edition = layout_in a d rows (kind_of kind) (edition_of edition)

-- places that fit the room: 17 where they do not
abbrev pub placed : {A : Type 0} → ℕ → List A → ℕ → Said Refusal (List A)
placed count zs room = do
  must (leb count room) (refused 17 0 0)
  says zs
