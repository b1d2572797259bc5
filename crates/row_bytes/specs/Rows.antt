-- The bytes of a row, by the kind.
use Rattle.std.specs.Prelude.{List, ℕ}
use Rattle.model.specs.declared.Kind.{Kind}
use Rattle.model.specs.declared.Kind.TheVariants.{Ascii, Binary, Binary32}
use Rattle.model.specs.declared.Layout.{Layout}
use Rattle.model.specs.declared.Row.{Row}
use Rattle.binary_bytes.specs.Rows.{binary_of}
use Rattle.ascii_plain.specs.Rows as plain

-- what is said by the kind; the two binary kinds differ by the layout alone
abbrev pub by_kind : {A : Type 0} → Kind → A → A → A
by_kind Ascii text binary = text
by_kind Binary text binary = binary
by_kind Binary32 text binary = binary

-- the bytes that row n is written in; its places past A and D are not read
unfoldable pub bytes_of : Layout → ℕ → Row → List ℕ
bytes_of l n r = by_kind l.kind (plain.text_of l n r) (binary_of l n r)
