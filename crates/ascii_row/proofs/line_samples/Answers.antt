-- `ascii_row::line_samples` meets its contract: what the fields say fills the first A places, and the rest is as it was, zero.
use mathlib.Core.Path.{ap, ◌∙◌}
use mathlib.Core.List.{List}
use Prim.Native.Nat.{ℕ}
use lib.IntN.{pos}
use Rattle.ground.specs.Tables.{padded}
use Rattle.ground.proofs.Filled.{padded-fill}
use Rattle.ascii_row.specs.Rows.{field_sample, row_of}
use Rattle.ascii_row.proofs.line_samples.Goals as goal

pub returns : goal.returns
unfolding row_of
returns c =
    let layout = c.args.layout in
    let read = c.read_samples in
    padded-fill layout.analogs 96 (pos 0) c.requires.analogs (field_sample layout c.after_fields-fields.result.now) read.new.d read.ensures
    ∙ ap (λ (t : List ℕ). padded (field_sample layout t) layout.analogs 96 (pos 0)) c.after_fields-fields.ensures
