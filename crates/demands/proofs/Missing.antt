-- MISSING SAMPLES: what a row that is shown says of a channel, where in the bytes a sample is missing, and that a change keeps it so.
--     sample-shown       a channel of 1 to A says what the page has for it
--     in-range           demand 2: each channel of a row that is shown is missing, or a number in the range of the file's kind: no lowest pattern is ever played
--     missing-text       demand 2: of a text a sample is missing exactly where its field is the edition's text of a missing one: empty, or worth 99999
--     kept-pattern       demand 2: of a binary kind exactly where its bytes are 8000 hex or 80000000 hex
--     sample-exactly     demand 2: a field of a text is read as a sample, or a missing one, exactly when it is that of the sample
--     missing-fits       demand 3: a missing sample can be written in every layout
--     missing-stays      demand 3: a channel of a changed file is missing exactly where it was before
-- Assumes nothing.
use mathlib.Core.Path.{◌≡◌, refl, sym, subst, ◌∙◌}
use mathlib.Core.Logic.{◌↔◌, ◌⊎◌, inl, inr}
use mathlib.Core.Bool.{true}
use mathlib.Core.List.{List}
use Prim.Native.Nat.{ℕ, ◌+◌, ◌-◌, ◌*◌, ◌/◌, ◌^◌, ◌≤◌, ◌<◌}
use native.Mathlib.Omega.{arith}
use borrow.Author.Tests.{le-ltb}
use lib.IntN.{ℤ, pos}
use lib.ListN.{get_or}
use Rattle.ground.specs.Said.{says}
use Rattle.ground.specs.Tables.{part, every}
use Rattle.ground.proofs.Cases.{clash}
use Rattle.words.specs.Words.{is_byte}
use Rattle.model.specs.declared.Kind.{Kind}
use Rattle.model.specs.declared.Kind.TheVariants.{Ascii}
use Rattle.model.specs.declared.Layout.{Layout}
use Rattle.model.specs.declared.Row.{Row}
use Rattle.std.proofs.Common.{Err, None, Ok, Option, Result, Some}
use Rattle.model.specs.declared.Refusal.{Refusal}
use Rattle.model.specs.Kinds.{width_of}
use Rattle.model.specs.Layouts.{in_kind}
use Rattle.model.specs.Samples.{missing, sample_of}
use Rattle.model.specs.Rows.{sample_at}
use Rattle.model.proofs.LayoutLaws.{sized-in}
use Rattle.model.proofs.SampleLaws.{missing-is}
pub use Rattle.model.proofs.SampleLaws.{missing-fits}
use Rattle.ascii_row.specs.Fields.{read_sample}
use Rattle.ascii_row.proofs.FieldLaws.{told-sample}
use Rattle.data.specs.Files.{row_at, check_file, show_row}
use Rattle.change.specs.Change.{change_said}
use Rattle.change.proofs.ChangeLaws.{changing}
use Rattle.paper.specs.Data.{InRange, row_sample, MissingText, SampleField, SampleWord, Allowed, low_first, TextFile, BinaryFile}
use Rattle.paper.specs.Written.{FitsIn}
use Rattle.exact_data.proofs.FileLaws.{data-exactly, row-shown, accepted-rows}
use Rattle.exact_data.proofs.ChangeLaws.{own_range, said-bytes}
use Rattle.exact_data.proofs.TextLaws.{missing-exactly}
pub use Rattle.exact_data.proofs.TextLaws.{sample-exactly}
use Rattle.demands.proofs.Data.{change-done}

-- A channel for which a row has a place says what the page has for it
pub sample-shown : (r : Row) (n : ℕ) → 1 ≤ n → n ≤ 96 → sample_at n r ≡ Ok (row_sample r (n - 1))
unfolding sample_at
sample-shown r n h k = rw (le-ltb n 1 h, le-ltb 96 n k)

-- what a row that is shown says of channel n, or its refusal
abbrev pub channel_of : ℕ → Result Row Refusal → Result (Option ℤ) Refusal
channel_of n (Ok r) = sample_at n r
channel_of n (Err r) = Err r

-- what fits is missing, or a number in range
fits_told : (l : Layout) (x : Option ℤ) (answer : Result (Option ℤ) Refusal) → answer ≡ Ok x → FitsIn l x → (answer ≡ Ok None) ⊎ ((z : ℤ) × (answer ≡ Ok (Some z)) × InRange l z)
fits_told l (Some z) answer e h = inr (z, e, h)
fits_told l None answer e h = inl e

-- DEMAND 2. Each analog channel of a row that is shown is missing, or a number within the range of the file's kind
pub in-range : (l : Layout) (s : List ℕ) (m : ℕ) (r : Row) → every is_byte s ≡ true → show_row l s m ≡ Ok r → (n : ℕ) → 1 ≤ n → n ≤ l.analogs
    → (sample_at n r ≡ Ok None) ⊎ ((z : ℤ) × (sample_at n r ≡ Ok (Some z)) × InRange l z)
in-range l s m r bytes e n h k =
    let (q, allowed, t, a, b, w) = (row-shown l s bytes m r).0 e in
    let f : FitsIn l (row_sample r (n - 1)) = rw w (own_range l q s allowed bytes t (m - 1) (n - 1) (omega arith) (omega arith)) in
    fits_told l (row_sample r (n - 1)) (sample_at n r) (sample-shown r n h (omega (arith, allowed.0.analogs))) f

-- DEMAND 2. A sample of a text is missing exactly where its field is the text of a missing one: empty in 2013, in 1999 a whole number worth 99999
pub missing-text : (l : Layout) (r : ℕ → Row) (s : List ℕ) → l.kind ≡ Ascii → (t : TextFile l r s) (i j : ℕ) (h : i < l.rows) → j < l.analogs
    → row_sample (r i) j ≡ None ↔ MissingText l.edition ((t.each i h).is.f (3 + j))
unfolding sample_of
missing-text l r s text t i j h k = (
  λ e. subst (λ (x : Option ℤ). SampleField l x f) e w,
  λ m.
      let p : read_sample l f ≡ Some z = (sample-exactly l text f z).1 w in
      let q : read_sample l f ≡ Some missing = told-sample l f missing (inl (refl, (missing-exactly l f text).1 m)) in
      let y : z ≡ missing = cc in
      is-missing-sample y,
)
  where
    z : ℤ
    z = get_or (r i).samples j (pos 0)

    f : List ℕ
    f = (t.each i h).is.f (3 + j)

    w : SampleField l (sample_of z) f
    w = (t.each i h).is.samples j k

    is-missing-sample : z ≡ missing → sample_of z ≡ None
    is-missing-sample y = rw (y, missing-is)

-- DEMAND 2. A sample of a binary kind is missing exactly where its bytes are the lowest pattern, 8000 hex of two bytes and 80000000 hex of four
pub kept-pattern : (l : Layout) (r : ℕ → Row) (s : List ℕ) (t : BinaryFile l r s) (i j : ℕ) → i < l.rows → j < l.analogs
    → row_sample (r i) j ≡ None ↔ low_first (part (8 + j * width_of l.kind) (8 + j * width_of l.kind + width_of l.kind) (t.bytes i)) ≡ 256 ^ width_of l.kind / 2
kept-pattern l r s t i j h k = go (row_sample (r i) j) _ ((t.each i h).samples j k)
  where
    go : (x : Option ℤ) (v : ℕ) → SampleWord (width_of l.kind) v x → x ≡ None ↔ v ≡ 256 ^ width_of l.kind / 2
    go (Some z) v w = ((λ e. clash (cc)), (λ e. absurd (w.0 e)))
    go None v w = ((λ e. w), (λ e. refl))

-- DEMAND 3. A channel of the new file is missing exactly where that of the old file is
pub missing-stays : (l : Layout) (s : List ℕ) (k : Kind) (room : ℕ) (u : List ℕ) → every is_byte s ≡ true → check_file l s ≡ Ok tt → change_said l s k room ≡ says u
    → (i n : ℕ) → i < l.rows → channel_of n (show_row (in_kind k l) u (i + 1)) ≡ (Ok None) ↔ channel_of n (show_row l s (i + 1)) ≡ Ok None
missing-stays l s k room u bytes fine e i n h =
    let (allowed, t) = accepted-rows l s bytes fine in
    let r = row_at l s in
    let new-allowed : Allowed (in_kind k l) = (sized-in k l allowed.0, (changing l s k room u e).has) in
    let old = ((data-exactly l s bytes r).1 (allowed, t)).1 i h in
    let new = ((data-exactly (in_kind k l) u (said-bytes l r s allowed bytes t k room u e) r).1 (new-allowed, (change-done l r s k room allowed bytes t u e).0)).1 i h in
    let w : show_row (in_kind k l) u (i + 1) ≡ show_row l s (i + 1) = new ∙ sym old in
    rw w (λ x. x, λ x. x)
