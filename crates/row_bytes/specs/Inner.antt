-- NOTHING TO BELIEVE HERE: what the writers of a row and of a file ask first. The law `length-bytes` (proofs/RowLaws.antt) says that it is the length of the row's bytes.
use Rattle.std.specs.Prelude.{List, ℕ, ℤ}
use Rattle.model.specs.declared.Layout.{Layout}
use Rattle.model.specs.declared.Row.{Row}
use Rattle.binary_row.specs.Rows as binary
use Rattle.ascii_plain.specs.Inner as plain
use Rattle.row_bytes.specs.Rows.{by_kind}

-- how many bytes row n takes
unfoldable pub length_of : Layout → ℕ → Row → ℕ
length_of l n r = by_kind l.kind (plain.text_length l n r) (binary.row_size l)

-- how many bytes row n takes with this timestamp and these samples
unfoldable pub length_by : Layout → ℕ → ℕ → List ℤ → ℕ
length_by l n time zs = by_kind l.kind (plain.length_by l n time zs) (binary.row_size l)
