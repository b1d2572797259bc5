-- `recode_file` meets its contract: where the width stays, the new file is the old one.
use mathlib.Core.Path.{sym, ◌∙◌}
use Rattle.words.proofs.WordLaws.{all-bytes}
use Rattle.recode.proofs.RowLaws.{file-same, size_same}
use Rattle.recode.proofs.recode_file.Goals as goal

pub copy-requires : goal.copy-requires
copy-requires c =
    let same = sym c.width.ensures ∙ c.if-width.true ∙ c.width-2.ensures in
    c.requires.d_len ∙ sym (size_same c.args.layout c.args.«data».now c.requires.sized.1 c.args.new same)

pub returns-then-width : goal.returns-then-width
returns-then-width c =
    let file = c.args.«data».now in
    let same = sym c.width.ensures ∙ c.if-width.true ∙ c.width-2.ensures in
    let known = all-bytes file c.shared_slice_known-1.given in
    c.copy.ensures ∙ sym (file-same c.args.layout file c.requires.sized.1 c.args.new same known)
