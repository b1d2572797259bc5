-- `ascii_row::sample_in` meets its contract.
use Rattle.ascii_row.proofs.FieldLaws.{sample-told, told-fits}
use Rattle.model.proofs.SampleLaws.{fits-small}
use mir.Val.{to_z, of_z}
use mir.Syntax.{w64}
use mathlib.Core.Path.{◌≡◌, ◌∙◌, sym}
use borrow.Author.Rules.{rules}
use Rattle.ascii_row.proofs.sample_in.Goals as goal
use Rattle.ascii_row.proofs.sample_in.Goals.{In-Some}

-- the number that was read, as the machine keeps it
kept : (c : In-Some) → to_z w64 (of_z w64 c.in-Some.z) ≡ c.in-Some.z
kept c = search rules

pub narrowed-requires : goal.narrowed-requires
narrowed-requires c =
    let l = c.args.layout in
    let told = sample-told l c.args.field.now c.in-Some.z (sym c.read_sample.ensures ∙ c.in-Some.is) in
    rw (kept c) (fits-small l c.in-Some.z (told-fits l c.args.field.now c.in-Some.z told))
