-- A change of kind, exactly.
--     outcome                  every sample is in range and all rows fit, or there is a first outside and the refusal is its place
--     one-first, none_first    there is one first sample outside, and none where all are in range
--     file-ext                 the same rows are written as the same file
--     said, said-file          what the change says of a data file, by its rows alone
--     own_range                each sample of a data file is in the range of its own kind, or missing
--     new-file, new-bytes, new-said     where every sample is in range, the new file is the data file of the same rows, it is bytes, and is said where there is room
--     back-said, restored      and what is then said of changing back: the first file itself, or the plain text with its rows
--     told                     in all: the new file, 17 where there is no room for it, or 16 at the first sample outside
--     said-bytes               what is said is bytes
-- Assumes nothing.
use mathlib.Core.Path.{◌≡◌, refl, sym, ap, subst, ◌∙◌}
use mathlib.Core.Logic.{◌⊎◌, inl, inr, ⊎_elim}
use mathlib.Core.Bool.{true}
use mathlib.Core.List.{List, [], ◌++◌}
use Prim.Native.Nat.{ℕ, zero, suc, ◌+◌, ◌≤◌, ◌<◌}
use native.Mathlib.Nat.{add-zero, zero-add}
use native.Mathlib.Omega.{arith}
use borrow.Author.Tests.{eqb-true, eqb-false, le-leb, lt-leb}
use lib.Dec.{eqb, leb}
use lib.IntN.{ℤ, pos}
use lib.ListN.{length, get_or}
use lib.Signed.{clash_ℤ, ◌<ℤ◌}
use Rattle.ground.specs.Said.{says, refuses, ◌>>◌, must}
use Rattle.ground.specs.Tables.{every}
use Rattle.ground.proofs.Cases.{on_test, lt-or-ge, clash}
use Rattle.ground.proofs.Tables.{cat-ext}
use Rattle.words.specs.Words.{is_byte}
use Rattle.model.specs.declared.Kind.{Kind}
use Rattle.model.specs.declared.Kind.TheVariants.{Ascii, Binary, Binary32}
use Rattle.model.specs.declared.Layout.{Layout}
use Rattle.model.specs.declared.Row.{Row}
use Rattle.std.proofs.Common.{Some}
use Rattle.model.specs.Kinds.{lowest_of, highest_of}
use Rattle.model.specs.Editions.{has_kind}
use Rattle.model.specs.Layouts.{is_sized, Sized, in_kind}
use Rattle.model.specs.Refusals.{refused}
use Rattle.model.specs.Rows.{trimmed}
use Rattle.model.proofs.FitLaws.{misfit-le, misfit-first}
use Rattle.model.proofs.LayoutLaws.{sized-is, sized-in}
use Rattle.ascii_file.specs.Files.{mark}
use Rattle.row_bytes.specs.Rows.{by_kind, bytes_of}
use Rattle.row_bytes.proofs.KindLaws.{by-kind}
use Rattle.data.specs.Files.{file_fine, row_at, misfit_of, end_mark, file_of}
use Rattle.data.proofs.FileLaws as files
use Rattle.data.proofs.FileLaws.{Writes}
use Rattle.change.specs.Change.{change_said}
use Rattle.change.proofs.ChangeLaws.{changing}
use Rattle.change_length.specs.Needed.{fit_rows, changed}
use Rattle.paper.specs.Data.{InRange, row_sample, TextFile, Allowed, DataFile}
use Rattle.paper.specs.Written.{FitsIn, EndingOf, PlainText, Restored, AllInRange, FirstOutside}
use Rattle.exact_data.proofs.NumberLaws.{fits-exactly, misfit-outside}
use Rattle.exact_data.proofs.FileLaws.{as-text, RowsAre, fine-exactly, same-file}
use Rattle.exact_data.proofs.StandLaws.{row-fits-exactly, rows-stand, bytes-stand}
use Rattle.exact_data.proofs.PlainLaws.{plain-there}

-- the search through a row
module _ (l : Layout) (r : Row) where
  abbrev place : ℕ → ℤ
  place j = get_or r.samples j (pos 0)

  misfit-within : (misfit_of l r ≡ l.analogs → ⊥) → misfit_of l r < l.analogs
  unfolding misfit_of
  misfit-within h = ⊎_elim (λ k. k) (λ k. absurd (h (omega (arith, misfit-le l r.samples)))) (lt-or-ge (misfit_of l r) l.analogs)

  misfit-there : misfit_of l r < l.analogs
      → (row_sample r (misfit_of l r) ≡ Some (place (misfit_of l r)))
      × ((place (misfit_of l r) <ℤ lowest_of l.kind l.edition) ⊎ (highest_of l.kind l.edition <ℤ place (misfit_of l r)))
  unfolding misfit_of
  misfit-there h = misfit-outside l (place (misfit_of l r)) (misfit-first l r.samples h).1

  misfit-before : misfit_of l r < l.analogs → (q : ℕ) → q < misfit_of l r → FitsIn l (row_sample r q)
  unfolding misfit_of
  misfit-before h q k = (fits-exactly l (place q)).0 ((misfit-first l r.samples h).0 q k)

-- m rows from row i on: all fit, or the first that does not is row i + j
abbrev AllFitFrom : Layout → (ℕ → Row) → ℕ → ℕ → Type 0
AllFitFrom n r i m = (fit_rows n r i m ≡ says tt) × ((j : ℕ) → j < m → misfit_of n (r (i + j)) ≡ n.analogs)

record Misfit (n : Layout) (r : ℕ → Row) (i m : ℕ) : Type 0 where
  at : ℕ
  within : at < m
  before : (p : ℕ) → p < at → misfit_of n (r (i + p)) ≡ n.analogs
  here : misfit_of n (r (i + at)) < n.analogs
  refusal : fit_rows n r i m ≡ refuses (refused 16 (i + at + 1) (3 + misfit_of n (r (i + at))))

-- what holds of the first and of each after it
module _ (n : Layout) (r : ℕ → Row) where
  from-first : (i m : ℕ) → misfit_of n (r i) ≡ n.analogs → ((j : ℕ) → j < m → misfit_of n (r (i + 1 + j)) ≡ n.analogs) → (j : ℕ) → j < suc m → misfit_of n (r (i + j)) ≡ n.analogs
  from-first i m e f zero h = rw add-zero e
  from-first i m e f (suc j) h = let q : i + suc j ≡ i + 1 + j = omega arith in rw q (f j (omega arith))

  fits_or : (i m : ℕ) → AllFitFrom n r i m ⊎ Misfit n r i m
  unfolding fit_rows
  fits_or i zero = inl (refl, λ j h. absurd (omega arith))
  fits_or i (suc m) =
      on_test (eqb (misfit_of n (r i)) n.analogs)
      (λ t.
      let e = eqb-true (misfit_of n (r i)) n.analogs t in
      ⊎_elim
      (λ (f : AllFitFrom n r (i + 1) m). inl (rw t f.0, from-first i m e f.1))
      (λ (f : Misfit n r (i + 1) m).
      let q : i + 1 + f.at ≡ i + suc f.at = omega arith in
      inr (record {
        at = suc f.at;
        within = omega (arith, f.within);
        before = from-first i f.at e f.before;
        here = rw q at f.here;
        refusal = rw t (rw q at f.refusal);
      }))
      (fits_or (i + 1) m))
      (λ t.
      let z : i + 0 ≡ i = omega arith in
      inr (record {
        at = 0;
        within = omega arith;
        before = λ p h. absurd (omega arith);
        here = rw z (misfit-within n (r i) (eqb-false (misfit_of n (r i)) n.analogs t));
        refusal = rw (t, z);
      }))

-- all rows of a file, in kind k
module _ (l : Layout) (k : Kind) (r : ℕ → Row) where
  abbrev new : Layout
  new = in_kind k l

  -- the first sample outside, and the refusal that tells it
  pub record Outside : Type 0 where
    pub i : ℕ
    pub j : ℕ
    pub first : FirstOutside l k r i j
    pub refusal : fit_rows new r 0 l.rows ≡ refuses (refused 16 (i + 1) (3 + j))

  pub outcome : (AllInRange l k r × (fit_rows new r 0 l.rows ≡ says tt)) ⊎ Outside
  outcome =
      ⊎_elim
      (λ (f : AllFitFrom new r 0 l.rows). inl (λ i j h q. (row-fits-exactly new (r i)).0 (rw zero-add at (f.1 i h)) j q, f.0))
      (λ (f : Misfit new r 0 l.rows).
      let here : misfit_of new (r f.at) < l.analogs = rw zero-add at f.here in
      inr (record {
        i = f.at;
        j = misfit_of new (r f.at);
        first = record {
          row = f.within;
          sample = here;
          number = place new (r f.at) (misfit_of new (r f.at));
          there = (misfit-there new (r f.at) here).0;
          outside = (misfit-there new (r f.at) here).1;
          rows_before = λ p q h w. (row-fits-exactly new (r p)).0 (rw zero-add at (f.before p h)) q w;
          samples_before = misfit-before new (r f.at) here;
        };
        refusal = rw zero-add at f.refusal;
      }))
      (fits_or new r 0 l.rows)

  -- a sample that is outside does not fit
  not-fits : (i j : ℕ) → FirstOutside l k r i j → FitsIn new (row_sample (r i) j) → ⊥
  not-fits i j f h =
      let q : InRange new f.number = rw f.there at h in
      ⊎_elim (λ (x : f.number <ℤ lowest_of k l.edition). clash_ℤ x q.low) (λ (x : highest_of k l.edition <ℤ f.number). clash_ℤ x q.high) f.outside

  pub none_first : (i j : ℕ) → AllInRange l k r → FirstOutside l k r i j → ⊥
  none_first i j all f = not-fits i j f (all i j f.row f.sample)

  -- no sample outside comes before the first
  not-before : (i j p q : ℕ) → FirstOutside l k r i j → FirstOutside l k r p q → p < i → ⊥
  not-before i j p q f g h = not-fits p q g (f.rows_before p q h g.sample)

  not_left : (i j q : ℕ) → FirstOutside l k r i j → FirstOutside l k r i q → q < j → ⊥
  not_left i j q f g h = not-fits i q g (f.samples_before q h)

  same : (a b : ℕ) → (a < b → ⊥) → (b < a → ⊥) → a ≡ b
  same a b h g = ⊎_elim (λ (w : a < b). absurd (h w)) (λ (w : b ≤ a). ⊎_elim (λ (v : b < a). absurd (g v)) (λ (v : a ≤ b). omega arith) (lt-or-ge b a)) (lt-or-ge a b)

  pub one-first : (i j p q : ℕ) → FirstOutside l k r i j → FirstOutside l k r p q → (i ≡ p) × (j ≡ q)
  one-first i j p q f g =
      let e : i ≡ p = same i p (not-before p q i j g f) (not-before i j p q f g) in
      let h : FirstOutside l k r i q = subst (λ (x : ℕ). FirstOutside l k r x q) (sym e) g in
      (e, same j q (not_left i q j h f) (not_left i j q f h))

-- rows that are the same where there are rows
module _ (n : Layout) (f g : ℕ → Row) where
  fit-ext : (i m : ℕ) → ((j : ℕ) → j < i + m → f j ≡ g j) → fit_rows n f i m ≡ fit_rows n g i m
  unfolding fit_rows
  fit-ext i zero h = refl
  fit-ext i (suc m) h = rw (h i (omega arith), fit-ext (i + 1) m (λ j q. h j (omega arith)))

  pub file-ext : ((i : ℕ) → i < n.rows → f i ≡ g i) → file_of n f ≡ file_of n g
  unfolding file_of
  file-ext h = ap (λ (x : List ℕ). x ++ end_mark n) (cat-ext (λ i. bytes_of n (i + 1) (f i)) (λ i. bytes_of n (i + 1) (g i)) n.rows (λ i q. ap (bytes_of n (i + 1)) (h i q)))

-- what the change says of a file that is fine and whose rows are r 0, r 1, ..
pub said : (l : Layout) (r : ℕ → Row) (s : List ℕ) (k : Kind) (room : ℕ) → is_sized l ≡ true → has_kind l.edition k ≡ true → file_fine l s ≡ says tt → RowsAre l r s
    → change_said l s k room
    ≡ (fit_rows (in_kind k l) r 0 l.rows >> (must (leb (length (file_of (in_kind k l) r)) room) (refused 17 0 0) >> says (file_of (in_kind k l) r)))
unfolding change_said changed
said l r s k room ok has fine rows =
    rw (ok, has, fine, fit-ext (in_kind k l) (row_at l s) r 0 l.rows (λ j q. rows j (omega arith)), file-ext (in_kind k l) (row_at l s) r rows)

ending_there : (n : Layout) → EndingOf n.kind (end_mark n)
unfolding end_mark
ending_there n = go n.kind
  where
    go : (k : Kind) → EndingOf k (by_kind k mark [])
    go Ascii = inr (inr refl)
    go Binary = refl
    go Binary32 = refl

-- a data file
module _ (l : Layout) (r : ℕ → Row) (s : List ℕ) (allowed : Allowed l) (bytes : every is_byte s ≡ true) (t : DataFile l r s) where
  size : Sized l
  size = allowed.0

  fine : (file_fine l s ≡ says tt) × RowsAre l r s
  fine = (fine-exactly l s size bytes r).1 t

  row-writes : (i : ℕ) → i < l.rows → Writes l (r i)
  row-writes i h = subst (Writes l) (fine.1 i h) (files.row-writes l s bytes i)

  row-trimmed : (i : ℕ) → i < l.rows → trimmed l (r i) ≡ r i
  row-trimmed i h = ap (trimmed l) (sym (fine.1 i h)) ∙ files.row-trimmed l s bytes i ∙ fine.1 i h

  pub own_range : AllInRange l l.kind r
  own_range i j h q = (row-fits-exactly l (r i)).0 (row-writes i h).all j q

  pub said-file : (k : Kind) (room : ℕ) → has_kind l.edition k ≡ true
      → change_said l s k room
      ≡ (fit_rows (in_kind k l) r 0 l.rows >> (must (leb (length (file_of (in_kind k l) r)) room) (refused 17 0 0) >> says (file_of (in_kind k l) r)))
  said-file k room has = said l r s k room (sized-is l size allowed.1) has fine.0 fine.1

  -- every sample is in the range of kind k
  module _ (k : Kind) (all : AllInRange l k r) where
    all_fit : fit_rows (in_kind k l) r 0 l.rows ≡ says tt
    all_fit = ⊎_elim (λ f. f.1) (λ (f : Outside l k r). absurd (none_first l k r f.i f.j all f.first)) (outcome l k r)

    new-writes : (i : ℕ) → i < l.rows → Writes (in_kind k l) (r i)
    new-writes i h = record { time = (row-writes i h).time; all = (row-fits-exactly (in_kind k l) (r i)).1 (λ j q. all i j h q) }

    new-trimmed : (i : ℕ) → i < l.rows → trimmed (in_kind k l) (r i) ≡ r i
    unfolding trimmed
    new-trimmed i h = row-trimmed i h

    pub new-file : DataFile (in_kind k l) r (file_of (in_kind k l) r)
    unfolding file_of
    new-file =
        same-file (in_kind k l) (λ i. trimmed (in_kind k l) (r i)) r (file_of (in_kind k l) r) new-trimmed k
        (rows-stand (in_kind k l) r (sized-in k l size) new-writes (end_mark (in_kind k l)) (ending_there (in_kind k l)))

    pub new-bytes : every is_byte (file_of (in_kind k l) r) ≡ true
    unfolding file_of
    new-bytes = bytes-stand (in_kind k l) r (sized-in k l size) new-writes (end_mark (in_kind k l)) (ending_there (in_kind k l))

    pub new-said : (room : ℕ) → has_kind l.edition k ≡ true → length (file_of (in_kind k l) r) ≤ room → change_said l s k room ≡ says (file_of (in_kind k l) r)
    new-said room has h = said-file k room has ∙ rw (all_fit, le-leb (length (file_of (in_kind k l) r)) room h)

  own-fit : fit_rows l r 0 l.rows ≡ says tt
  own-fit = all_fit l.kind own_range

  pub back-said : (k : Kind) (room : ℕ) → has_kind l.edition k ≡ true → AllInRange l k r → length (file_of l r) ≤ room → change_said (in_kind k l) (file_of (in_kind k l) r) l.kind room ≡ says (file_of l r)
  back-said k room has all h =
      let n = in_kind k l in
      let ok = sized-is n (sized-in k l size) has in
      let w = new-writes k all in
      let q : change_said n (file_of n r) l.kind room ≡ (fit_rows l r 0 l.rows >> (must (leb (length (file_of l r)) room) (refused 17 0 0) >> says (file_of l r)))
      = said n r (file_of n r) l.kind room ok allowed.1 (files.fine_back n ok r w) (λ i j. files.row_back n ok r w i j ∙ new-trimmed k all i j) in
      q ∙ rw (own-fit, le-leb (length (file_of l r)) room h)

  pub restored : Restored l.kind l r s (file_of l r)
  restored =
      by-kind l.kind
      (λ e. text l.kind e ((as-text l r (file_of l r) l.kind e).0 (new-file l.kind own_range)) (rw (files.file-text l e r) (plain-there l r e)))
      (λ e. binary l.kind e (file-ext l r (row_at l s) (λ i h. sym (fine.1 i h)) ∙ files.file-back l s bytes e fine.0))
    where
      text : (k : Kind) → k ≡ Ascii → TextFile l r (file_of l r) → PlainText l (file_of l r) → Restored k l r s (file_of l r)
      text k e x y = rw e (x, y)

      binary : (k : Kind) → (k ≡ Ascii → ⊥) → file_of l r ≡ s → Restored k l r s (file_of l r)
      binary Ascii e x = absurd (e refl)
      binary Binary e x = x
      binary Binary32 e x = x

  -- the new file, 17, or 16 at the first sample outside
  pub told : (k : Kind) (room : ℕ) → has_kind l.edition k ≡ true
      → (AllInRange l k r × (length (file_of (in_kind k l) r) ≤ room) × (change_said l s k room ≡ says (file_of (in_kind k l) r)))
      ⊎ ((AllInRange l k r × (room < length (file_of (in_kind k l) r)) × (change_said l s k room ≡ refuses (refused 17 0 0)))
      ⊎ ((i : ℕ) × (j : ℕ) × FirstOutside l k r i j × (change_said l s k room ≡ refuses (refused 16 (i + 1) (3 + j)))))
  told k room has =
      let m = length (file_of (in_kind k l) r) in
      ⊎_elim
      (λ f.
      ⊎_elim
      (λ (h : room < m). inr (inl (f.0, h, said-file k room has ∙ rw (f.1, lt-leb m room h))))
      (λ (h : m ≤ room). inl (f.0, h, new-said k f.0 room has h))
      (lt-or-ge room m))
      (λ (f : Outside l k r). inr (inr (f.i, f.j, f.first, said-file k room has ∙ rw f.refusal)))
      (outcome l k r)

  pub said-bytes : (k : Kind) (room : ℕ) (u : List ℕ) → change_said l s k room ≡ says u → every is_byte u ≡ true
  said-bytes k room u e =
      ⊎_elim
      (λ a. let p = a.2 in let q : file_of (in_kind k l) r ≡ u = cc in rw (← q) (new-bytes k a.0))
      (⊎_elim (λ a. let q = a.2 in clash (cc)) (λ a. let q = a.3 in clash (cc)))
      (told k room (changing l s k room u e).has)
