-- `calls_data::write_in` meets its contract: each return is the test that led to it, and a row whose places fit is written by the call below.
use Rattle.calls_data.specs.Calls.{row_asked}
use Rattle.calls_data.specs.Inner.{write_in}
use Rattle.answers.proofs.CountedLaws.{counted-written}
use Rattle.calls_data.proofs.CallLaws.{written-few}
use Rattle.row_places.specs.Rows.{places_of, unfit, row_of_places}
use Rattle.row_places.proofs.UnfitLaws.{unfit-le, time-small}
use Rattle.data.specs.Files.{has_row}
use Rattle.model.specs.Layouts.{is_sized, Sized}
use Rattle.model.proofs.LayoutLaws.{sized}
use borrow.Author.Tests.{eq-eqb, ne_eqb, le-leb, lt-leb}
use native.Mathlib.Omega.{arith}
use Prim.Native.Nat.{◌≤◌, ◌<◌, ◌^◌}
use lib.Dec.{eqb, leb}
use lib.ListN.{length}
use mathlib.Core.Bool.{true, false}
use mathlib.Core.Path.{◌≡◌, sym, ◌∙◌}
use borrow.Author.Rules.{rules}
use Rattle.calls_data.proofs.write_in.Goals as goal
use Rattle.calls_data.proofs.write_in.Goals.{After-first_unfit-bad, Else-bad-count, Else-not-has_row, Else-not-is_sized, Else-zs-count, Start, Then-bad-count}

-- the layout is within the sizes
ok : (c : Else-not-is_sized) → is_sized c.args.layout ≡ true
ok c = sym c.is_sized.ensures ∙ c.if-not-is_sized.false

fit : (c : Else-not-is_sized) → Sized c.args.layout
fit c = sized c.args.layout (ok c)

-- there are as many places as a row has
within : (c : Else-zs-count) → places_of c.args.layout ≤ length c.args.zs.now
within c = rw c.places_of-count.ensures at c.if-zs-count.false

enough : (c : Else-zs-count) → leb (places_of c.args.layout) (length c.args.zs.now) ≡ true
enough c =
    le-leb (places_of c.args.layout) (length c.args.zs.now) (within c)

-- the row is one of the file's
there : (c : Else-not-has_row) → has_row c.args.layout c.args.n ≡ true
there c = sym c.has_row.ensures ∙ c.if-not-has_row.false

-- the first place that does not fit is one of the row's, or there is none
small : (c : After-first_unfit-bad) → Sized c.args.layout → c.first_unfit-bad.result ≤ 353
small c size = rw c.first_unfit-bad.ensures (omega (arith, unfit-le c.args.layout c.args.zs.now, size.analogs, size.statuses))

wrong : (c : Then-bad-count) → eqb (unfit c.args.layout c.args.zs.now) (places_of c.args.layout) ≡ false
wrong c = rw (← c.first_unfit-bad.ensures, ← c.places_of-count.ensures) (ne_eqb _ _ c.if-bad-count.true)

-- every place fits
all : (c : Else-bad-count) → unfit c.args.layout c.args.zs.now ≡ places_of c.args.layout
all c = sym c.first_unfit-bad.ensures ∙ c.if-bad-count.false ∙ c.places_of-count.ensures

right : (c : Else-bad-count) → eqb (unfit c.args.layout c.args.zs.now) (places_of c.args.layout) ≡ true
right c =
    eq-eqb (unfit c.args.layout c.args.zs.now) (places_of c.args.layout) (all c)

pub returns-then-not-is_sized : goal.returns-then-not-is_sized
unfolding row_asked write_in
returns-then-not-is_sized c =
    let bad = c.if-not-is_sized.true in
    record { value = rw (c.no.ensures, c.refused.ensures, ← c.is_sized.ensures, bad); out_after = rw (← c.is_sized.ensures, bad) }

pub places_of-count-requires : goal.places_of-count-requires
places_of-count-requires c = fit c

pub returns-then-zs-count : goal.returns-then-zs-count
unfolding row_asked write_in
returns-then-zs-count c =
    let sizes = ok (goal.at.returns-then-zs-count c).Else-not-is_sized in
    let few = lt-leb (places_of c.args.layout) (length c.args.zs.now) (rw c.places_of-count.ensures at c.if-zs-count.true) in
    record { value = rw (c.no-then-zs-count.ensures, c.refused-then-zs-count.ensures, sizes, few); out_after = rw (sizes, few) }

pub returns-then-not-has_row : goal.returns-then-not-has_row
unfolding row_asked write_in
returns-then-not-has_row c =
    let sizes = ok (goal.at.returns-then-not-has_row c).Else-not-is_sized in
    let places = enough (goal.at.returns-then-not-has_row c).Else-zs-count in
    let found = c.has_row in
    let none = c.if-not-has_row.true in
    record { value = rw (c.no-then-not-has_row.ensures, c.refused-then-not-has_row.ensures, sizes, places, ← found.ensures, none); out_after = rw (sizes, places, ← found.ensures, none) }

pub first_unfit-bad-requires : goal.first_unfit-bad-requires
first_unfit-bad-requires c = (fit (goal.at.first_unfit-bad-requires c).Else-not-is_sized, within (goal.at.first_unfit-bad-requires c).Else-zs-count)

pub overflow_cast-bad : goal.overflow_cast-bad
overflow_cast-bad c = omega (arith, small (goal.at.overflow_cast-bad c).After-first_unfit-bad (fit (goal.at.overflow_cast-bad c).Else-not-is_sized))

pub overflow_add-bad : goal.overflow_add-bad
overflow_add-bad c = omega (arith, small (goal.at.overflow_add-bad c).After-first_unfit-bad (fit (goal.at.overflow_add-bad c).Else-not-is_sized))

pub returns-then-bad-count : goal.returns-then-bad-count
unfolding row_asked write_in
returns-then-bad-count c =
    let sizes = ok (goal.at.returns-then-bad-count c).Else-not-is_sized in
    let places = enough (goal.at.returns-then-bad-count c).Else-zs-count in
    let asked = there (goal.at.returns-then-bad-count c).Else-not-has_row in
    record { value = rw (c.no-then-bad-count.ensures, c.refused-then-bad-count.ensures, sizes, places, asked, wrong (goal.at.returns-then-bad-count c).Then-bad-count, c.first_unfit-bad.ensures); out_after = rw (sizes, places, asked, wrong (goal.at.returns-then-bad-count c).Then-bad-count) }

pub row_of_places-requires : goal.row_of_places-requires
row_of_places-requires c = (fit (goal.at.row_of_places-requires c).Else-not-is_sized, within (goal.at.row_of_places-requires c).Else-zs-count, all c)

-- the row's number is of 32 bits
short : (c : Start) → c.args.n < 2 ^ 32
short c = search rules

pub counted-requires : goal.counted-requires
unfolding row_of_places
counted-requires c =
    let row = c.row_of_places in
    let said = c.write_row in
    let time : row.result.time < 2 ^ 32 = rw row.ensures (time-small c.args.layout c.args.zs.now (all (goal.at.counted-requires c).Else-bad-count)) in
    written-few c.args.layout c.args.n row.result (length c.args.out.now) said.result (short (goal.at.counted-requires c).Start) time said.ensures.value

pub returns : goal.returns
unfolding row_asked write_in
returns c =
    let row = c.row_of_places.ensures in
    let sizes = ok (goal.at.returns c).Else-not-is_sized in
    let places = enough (goal.at.returns c).Else-zs-count in
    let asked = there (goal.at.returns c).Else-not-has_row in
    record { value = rw (c.counted.ensures, c.write_row.ensures.value, counted-written, row, sizes, places, asked, right (goal.at.returns c).Else-bad-count); out_after = rw (sizes, places, asked, right (goal.at.returns c).Else-bad-count) (rw row at c.write_row.ensures.out_after) }
