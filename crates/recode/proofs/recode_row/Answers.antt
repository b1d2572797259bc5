-- `recode::recode_row` meets its contract: number and timestamp fill the first part, samples and words the second.
use native.Mathlib.Omega.{arith}
use mathlib.Core.Path.{◌≡◌, refl, sym, ◌∙◌}
use Prim.Native.Nat.{◌-◌}
use lib.ListN.{length, take}
use lib.Seq.{length-take-le}
use Rattle.ground.proofs.Parts.{halves, half_length, length_part}
use Rattle.ground.specs.Tables.{part}
use Rattle.words.proofs.WordLaws.{all-bytes}
use Rattle.binary_row.proofs.SizeLaws.{sizes, samples-length}
use Rattle.model.specs.Layouts.{in_kind}
use Rattle.recode.proofs.RowLaws.{row-narrow, row-recoded}
use Rattle.recode.proofs.recode_row.Goals as goal
use Rattle.recode.proofs.recode_row.Goals.{Start}

-- the head has its place
head : (c : Start) → length (take 8 c.args.d.now) ≡ 8
head c = length-take-le 8 c.args.d.now (omega (arith, sizes (in_kind c.args.new c.args.layout), c.requires.d_len.0))

pub row_time-time-requires : goal.row_time-time-requires
row_time-time-requires c =
    omega (arith, sizes c.args.layout, c.requires.sized.1)

pub slice_bounds-put_head-end : goal.slice_bounds-put_head-end
slice_bounds-put_head-end c =
    omega (arith, sizes (in_kind c.args.new c.args.layout), c.requires.d_len.0)

pub slice_bounds-put_head-end-2 : goal.slice_bounds-put_head-end-2
slice_bounds-put_head-end-2 c = sym (head (goal.at.slice_bounds-put_head-end-2 c).Start)

pub put_head-requires : goal.put_head-requires
put_head-requires c = head (goal.at.put_head-requires c).Start

pub slice_bounds-recode_body-end : goal.slice_bounds-recode_body-end
slice_bounds-recode_body-end c =
    omega (arith, c.samples_end-mid.ensures, sizes c.args.layout, c.requires.sized.1)

pub slice_bounds-recode_body-count-2 : goal.slice_bounds-recode_body-count-2
slice_bounds-recode_body-count-2 c =
    omega (arith, c.samples_end-mid.ensures, sizes c.args.layout, c.requires.sized.1)

pub slice_bounds-recode_body-start-2 : goal.slice_bounds-recode_body-start-2
slice_bounds-recode_body-start-2 c =
    omega (arith, c.samples_end-mid.ensures, sizes c.args.layout, c.requires.sized.1)

pub slice_bounds-recode_body-count-3 : goal.slice_bounds-recode_body-count-3
slice_bounds-recode_body-count-3 c =
    omega (arith, sizes (in_kind c.args.new c.args.layout), c.requires.d_len.0)

pub slice_bounds-recode_body-start-3 : goal.slice_bounds-recode_body-start-3
slice_bounds-recode_body-start-3 c =
    omega (arith, sizes (in_kind c.args.new c.args.layout), c.requires.d_len.0)

pub recode_body-requires : goal.recode_body-requires
recode_body-requires c =
    let l = c.args.layout in
    let b = c.args.b.now in
    let d = c.args.d.now in
    let put = c.put_head in
    let p = put.new.d in
    let lp : length p ≡ 8 = put.auto.d ∙ head (goal.at.recode_body-requires c).Start in
    let ends = c.samples_end-mid in
    let mid = ends.result in
    let e = sizes l in
    let f = sizes (in_kind c.args.new l) in
    let w : length (part mid (length b) b) ≡ length b - mid = length_part mid (length b) b (omega arith) in record {
      samples_len = (
        rw ends.ensures (samples-length l b c.requires.sized.1),
        c.requires.d_len.1,
        λ h. rw ends.ensures (sym (row-narrow l c.args.new b h) ∙ c.requires.sized.3),
      );
      d_len = half_length d p 8 (length d) lp (omega arith) (omega (arith, c.requires.d_len.0)) ∙ omega (arith, ends.ensures, c.requires.sized.1, c.requires.d_len.0);
    }

pub returns : goal.returns
returns c =
    let l = c.args.layout in
    let b = c.args.b.now in
    let d = c.args.d.now in
    let f = sizes (in_kind c.args.new l) in
    let put = c.put_head in
    let body = c.recode_body in
    let p = put.new.d in
    let q = body.new.d in
    let lp : length p ≡ 8 = put.auto.d ∙ head (goal.at.returns c).Start in
    let lq : length q ≡ length d - 8 = body.auto.d ∙ half_length d p 8 (length d) lp (omega arith) (omega (arith, c.requires.d_len.0)) in
    let known = all-bytes b c.shared_slice_known-1.given in
    halves d p q 8 (length d) lp (omega (arith, c.requires.d_len.0)) refl
    ∙ rw (put.ensures, body.ensures, c.row_time-time.ensures, c.samples_end-mid.ensures, c.requires.sized.1)
    (sym (row-recoded l c.args.new b c.args.n c.requires.sized.1 known c.requires.sized.2))
