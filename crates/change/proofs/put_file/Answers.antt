-- `change::put_file` meets its contract, by the kinds.
use mathlib.Core.Path.{sym, ◌∙◌}
use Rattle.change.proofs.ChangeLaws.{fine-start}
use Rattle.change.proofs.BinaryLaws.{changed-binary, rows_fit}
use Rattle.change_length.proofs.BinaryLaws.{fine-binary, file-size}
use Rattle.change.proofs.put_file.Goals as goal

pub recode_file-requires : goal.recode_file-requires
recode_file-requires c =
    let l = c.args.layout in
    let file = c.args.«data».now in
    let m = c.args.kind in
    let both = sym c.both_binary.ensures ∙ c.if-both_binary.true in record { sized = (c.requires.sized.0, sym (fine-binary l file m both) ∙ c.requires.sized.1, rows_fit l file m both c.requires.d_len.1); d_len = c.requires.d_len.0 ∙ file-size l file m both }

pub put_by_rows-requires : goal.put_by_rows-requires
put_by_rows-requires c =
    record { sized = (c.requires.sized.0, fine-start c.args.layout c.args.«data».now c.requires.sized.1); d_len = c.requires.d_len }

pub returns-then-both_binary : goal.returns-then-both_binary
returns-then-both_binary c =
    let both = sym c.both_binary.ensures ∙ c.if-both_binary.true in
    c.recode_file.ensures ∙ sym (changed-binary c.args.layout c.args.«data».now c.args.kind both)
