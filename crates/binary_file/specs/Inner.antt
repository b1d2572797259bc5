-- NOTHING TO BELIEVE HERE: what the laws of files cite. The law `file-binary` (crates/data/proofs/FileLaws.antt) says that it is `file_of` in a binary kind.
use Rattle.std.specs.Prelude.{List, ℕ, ◌+◌}
use Rattle.ground.specs.Tables.{cat}
use Rattle.model.specs.declared.Layout.{Layout}
use Rattle.model.specs.declared.Row.{Row}
use Rattle.binary_bytes.specs.Rows.{binary_of}

-- the bytes of a file whose rows are r 0, r 1, ..
abbrev pub binary_file : Layout → (ℕ → Row) → List ℕ
binary_file l r = cat (λ i. binary_of l (i + 1) (r i)) l.rows
