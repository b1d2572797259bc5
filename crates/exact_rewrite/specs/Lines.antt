-- WHAT A LINE OF A CONFIGURATION IS WRITTEN AS, told by its fields. No reader and no writer stands here.
use Rattle.std.specs.Prelude.{◌≡◌, Bool, true, false, List, ◌∷◌, ◌++◌, ℕ, ◌≤◌}
use Rattle.model.specs.declared.Kind.{Kind}
use Rattle.model.specs.Kinds.{kind_name}
use Rattle.rewrite_lines.specs.declared.LineSort.{LineSort}
use Rattle.rewrite_lines.specs.declared.LineSort.TheVariants.{Kept, Numbers, Analog, Status, Word}
use Rattle.rewrite_lines.specs.Lines.{is_number}
use Rattle.paper.specs.Fields.{spaces}
use Rattle.paper.specs.Lines.{Fields}

-- the field f is written as g: a number or a code without the spaces in front of it, any other as it stands
abbrev pub FieldWritten : Bool → List ℕ → List ℕ → Type 0
FieldWritten true f g = ((n : ℕ) × (f ≡ spaces n ++ g)) × ((r : List ℕ) → g ≡ 32 ∷ r → ⊥)
FieldWritten false f g = g ≡ f

-- the line l is written as m, field by field; `is_number` tells which fields of a sort of line are numbers or codes
pub record FieldsWritten (sort : LineSort) (l m : List ℕ) : Type 0 where
  pub count : ℕ
  pub old : ℕ → List ℕ
  pub new : ℕ → List ℕ
  pub before : Fields count old l
  pub after : Fields count new m
  pub each : (i : ℕ) → 1 ≤ i → i ≤ count → FieldWritten (is_number sort i) (old i) (new i)

-- the line l is written as m, in kind k: as it stands, as the kind's word, or field by field
abbrev pub LineWritten : Kind → LineSort → List ℕ → List ℕ → Type 0
LineWritten k Kept l m = m ≡ l
LineWritten k Numbers l m = FieldsWritten Numbers l m
LineWritten k Analog l m = FieldsWritten Analog l m
LineWritten k Status l m = FieldsWritten Status l m
LineWritten k Word l m = m ≡ kind_name k
