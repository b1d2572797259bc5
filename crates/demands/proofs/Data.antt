-- The demands on data files, on written rows and on the change of kind, told without a reader or a writer (crate `paper`, Data and Written); crate `exact_data` proves the first five.
--     data-exactly           demand 2: a file is accepted, and these rows are shown, exactly when the layout is allowed and it is the data file of these rows
--     row-shown              demand 2: row n is shown, and is q, exactly when the file is the data file of rows of which q is the n-th
--     data-refused           demands 1 and 2: a file is refused exactly when it is the data file of no rows
--     row-refused            demands 1 and 2: a row is refused exactly when the file is, or when there is no such row
--     one-file               demand 2: a file is the data file of one row of rows alone
--     written-exactly        demand 2: a row is written exactly when its samples are in range, or missing
--     written_stands         demand 2: a row that was written, standing in a data file as row n, is shown as it was written, its places past A and D zero
--     three-endings          demand 2: rows that were written, one after the other, and any of the endings are the data file of these rows
--     lacking                demand 3: a change to a kind that the edition lacks is refused with 10, whatever the file and the room
--     refused-outside        demand 3: a change is refused with 16 at a sample exactly when that is the first that is there and outside the new kind's range
--     refused-short          demand 3: and with 17 exactly when every sample that is there is in range and there is no room for the new file
--     refused-only           demand 3: and with nothing else
--     change-done            demand 3: else the new file is the data file of the same rows, and changing back gives the first file, or the plain text with its rows
--     plain-only             demand 3: of which there is one
-- Assumes nothing.
use mathlib.Core.Path.{◌≡◌, sym, ap, subst, ◌∙◌}
use mathlib.Core.Logic.{◌↔◌, ◌⊎◌, inl, inr, ⊎_elim}
use mathlib.Core.Bool.{true, false}
use mathlib.Core.List.{List, ◌++◌}
use Prim.Native.Nat.{ℕ, ◌+◌, ◌-◌, ◌≤◌, ◌<◌}
use native.Mathlib.Omega.{arith}
use borrow.Author.Tests.{eq-eqb, le-leb}
use lib.ListN.{length}
use Rattle.ground.specs.Said.{says, refuses}
use Rattle.ground.specs.Tables.{cat, every}
use Rattle.ground.proofs.Cases.{clash}
use Rattle.ground.proofs.Tables.{cat-ext}
use Rattle.words.specs.Words.{is_byte}
use Rattle.model.specs.declared.Kind.{Kind}
use Rattle.model.specs.declared.Kind.TheVariants.{Ascii}
use Rattle.model.specs.declared.Layout.{Layout}
use Rattle.model.specs.declared.Row.{Row}
use Rattle.model.specs.declared.Refusal.{Refusal}
use Rattle.std.proofs.Common.{Ok}
use Rattle.model.specs.Editions.{has_kind}
use Rattle.model.specs.Layouts.{in_kind}
use Rattle.model.specs.Refusals.{refused, reason_number}
use Rattle.model.specs.Rows.{latest_time, trimmed}
use Rattle.row_bytes.specs.Rows.{bytes_of}
use Rattle.data.specs.Files.{has_row, misfit_of, check_file, show_row, write_said, file_of}
use Rattle.model.proofs.LayoutLaws.{sized-is}
use Rattle.data.proofs.Laws.{row_told, writable}
use Rattle.data.proofs.FileLaws.{Writes}
use Rattle.change.specs.Change.{change_said}
use Rattle.change.proofs.ChangeLaws.{changing}
use Rattle.paper.specs.Data.{TextFile, Allowed, DataFile}
use Rattle.paper.specs.Written.{Fitting, Stands, EndingOf, PlainText, Restored, AllInRange, FirstOutside}
pub use Rattle.exact_data.proofs.FileLaws.{data-exactly, row-shown, data-refused, row-refused, one-file}
use Rattle.exact_data.proofs.StandLaws.{fitting-exactly, row-stands, rows-stand, bytes-stand}
use Rattle.exact_data.proofs.PlainLaws.{plain-written}
use Rattle.exact_data.proofs.ChangeLaws.{none_first, one-first, new-file, new-said, back-said, restored, told}

-- a row that was written can be written
writes : (l : Layout) (n : ℕ) (r : Row) (room : ℕ) (b : List ℕ) → r.time ≤ latest_time → write_said l n r room ≡ says b → Writes l r
writes l n r room b h e = record { time = omega arith; all = (writable l n r room b e).all }

-- DEMAND 2. A row, the n-th of a layout that is allowed, whose timestamp has 32 bits, is written where there is room exactly when each of its samples is in the kind's range, or missing
pub written-exactly : (l : Layout) (n : ℕ) (r : Row) → Allowed l → 1 ≤ n → n ≤ l.rows → r.time ≤ latest_time
    → Fitting l r ↔ ((b : List ℕ) × ((room : ℕ) → length b ≤ room → write_said l n r room ≡ says b))
unfolding write_said has_row
written-exactly l n r allowed h k early = (
  λ f. (
    bytes_of l n r,
    λ room w.
        rw (
          sized-is l allowed.0 allowed.1,
          le-leb 1 n h,
          le-leb n l.rows k,
          eq-eqb (misfit_of l r) l.analogs ((fitting-exactly l r).0 f).all,
          le-leb (length (bytes_of l n r)) room w,
        ),
  ),
  λ t. (fitting-exactly l r).1 (writes l n r (length t.0) t.0 early (t.1 (length t.0) (omega arith))),
)

-- DEMAND 2. A row that was written, standing in a data file as row n, is shown as it was written: its places past A and D zero
pub written_stands : (l : Layout) (n : ℕ) (r : Row) (room : ℕ) (b s : List ℕ) (q : ℕ → Row) → every is_byte s ≡ true
    → write_said l n r room ≡ says b → r.time ≤ latest_time → DataFile l q s → Stands l n b s → show_row l s n ≡ Ok (trimmed l r)
written_stands l n r room b s q bytes e h t st =
    let w = writable l n r room b e in
    let k = row_told l n w.there in
    let row = row-stands l s n r q w.fit k (writes l n r room b h e) (subst (λ (x : List ℕ). Stands l n x s) w.bytes st) bytes t in
    let z : n - 1 + 1 ≡ n = omega (arith, k.0) in
    (rw z at (((data-exactly l s bytes q).1 ((w.fit, w.has), t)).1 (n - 1) (omega (arith, k.0, k.1)))) ∙ ap (λ (x : Row). Ok x) row

-- DEMAND 2. Rows that were written, one after the other, and then any of the endings are the data file of these rows: it is accepted, and shows each as it was written
pub three-endings : (l : Layout) (r : ℕ → Row) (room : ℕ → ℕ) (b : ℕ → List ℕ) (end : List ℕ) → Allowed l
    → ((i : ℕ) → i < l.rows → ((r i).time ≤ latest_time) × (write_said l (i + 1) (r i) (room i) ≡ says (b i))) → EndingOf l.kind end
    → DataFile l (λ i. trimmed l (r i)) (cat b l.rows ++ end)
    × (check_file l (cat b l.rows ++ end) ≡ Ok tt)
    × ((i : ℕ) → i < l.rows → show_row l (cat b l.rows ++ end) (i + 1) ≡ Ok (trimmed l (r i)))
three-endings l r room b end allowed w h =
    let s = cat (λ i. bytes_of l (i + 1) (r i)) l.rows ++ end in
    let fit : (i : ℕ) → i < l.rows → Writes l (r i) = λ i k. writes l (i + 1) (r i) (room i) (b i) (w i k).0 (w i k).1 in
    let t = rows-stand l r allowed.0 fit end h in
    let a = (data-exactly l s (bytes-stand l r allowed.0 fit end h) (λ i. trimmed l (r i))).1 (allowed, t) in
    rw (cat-ext b (λ i. bytes_of l (i + 1) (r i)) l.rows (λ i k. (writable l (i + 1) (r i) (room i) (b i) (w i k).1).bytes)) (t, a.0, a.1)

-- DEMAND 3. A change to a kind that the edition lacks is refused with 10, whatever the file and the room
pub lacking : (l : Layout) (s : List ℕ) (k : Kind) (room : ℕ) → Allowed l → has_kind l.edition k ≡ false → change_said l s k room ≡ refuses (refused 10 0 0)
unfolding change_said
lacking l s k room allowed lacks = rw (sized-is l allowed.0 allowed.1, lacks)

-- a data file, and a change to a kind k that the edition has, where there is room for so many bytes
module _ (l : Layout) (r : ℕ → Row) (s : List ℕ) (k : Kind) (room : ℕ) (allowed : Allowed l) (bytes : every is_byte s ≡ true) (t : DataFile l r s)
    (has : has_kind l.edition k ≡ true) where
  -- one answer is no other
  same_place : (i j p q : ℕ) → change_said l s k room ≡ refuses (refused 16 (i + 1) (3 + j)) → change_said l s k room ≡ refuses (refused 16 (p + 1) (3 + q)) → (i ≡ p) × (j ≡ q)
  same_place i j p q e f =
      let x : refused 16 (i + 1) (3 + j) ≡ refused 16 (p + 1) (3 + q) = cc in
      let y : i + 1 ≡ p + 1 = ap (λ (z : Refusal). z.at) x in
      let z : 3 + j ≡ 3 + q = ap (λ (z : Refusal). z.field) x in
      (omega arith, omega arith)

  not-both : {C : Type 0} (i j : ℕ) → change_said l s k room ≡ refuses (refused 16 (i + 1) (3 + j)) → change_said l s k room ≡ refuses (refused 17 0 0) → C
  not-both i j e f =
      let x : refused 16 (i + 1) (3 + j) ≡ refused 17 0 0 = cc in
      let y : ◌≡◌ {A = ℕ} 16 17 = ap (λ (z : Refusal). reason_number z.reason) x in
      absurd (omega arith)

  outside-to : (i j : ℕ) → change_said l s k room ≡ refuses (refused 16 (i + 1) (3 + j)) → FirstOutside l k r i j
  outside-to i j e =
      ⊎_elim
      (λ a. let q = a.2 in clash (cc))
      (⊎_elim
      (λ a. not-both i j e a.2)
      (λ a. let y = same_place a.0 a.1 i j a.3 e in rw (← y.0, ← y.1) a.2))
      (told l r s allowed bytes t k room has)

  outside-from : (i j : ℕ) → FirstOutside l k r i j → change_said l s k room ≡ refuses (refused 16 (i + 1) (3 + j))
  outside-from i j f =
      ⊎_elim
      (λ a. absurd (none_first l k r i j a.0 f))
      (⊎_elim
      (λ a. absurd (none_first l k r i j a.0 f))
      (λ a. let y = one-first l k r a.0 a.1 i j a.2 f in rw (← y.0, ← y.1) a.3))
      (told l r s allowed bytes t k room has)

  -- DEMAND 3. A change is refused with 16 at row i + 1 and field 3 + j exactly when sample j of row i is the first that is there and below the lowest or above the highest of the new kind
  pub refused-outside : (i j : ℕ) → change_said l s k room ≡ refuses (refused 16 (i + 1) (3 + j)) ↔ FirstOutside l k r i j
  refused-outside i j = (outside-to i j, outside-from i j)

  -- u is the new file: it is said wherever there is room for it
  abbrev pub NewFile : List ℕ → Type 0
  NewFile u = (more : ℕ) → length u ≤ more → change_said l s k more ≡ says u

  short-to : change_said l s k room ≡ refuses (refused 17 0 0) → AllInRange l k r × (u : List ℕ) × NewFile u × (room < length u)
  short-to e =
      ⊎_elim
      (λ a. let q = a.2 in clash (cc))
      (⊎_elim
      (λ a. (a.0, file_of (in_kind k l) r, λ more. new-said l r s allowed bytes t k a.0 more has, a.1))
      (λ a. not-both a.0 a.1 a.3 e))
      (told l r s allowed bytes t k room has)

  short-from : AllInRange l k r → (u : List ℕ) → NewFile u → room < length u → change_said l s k room ≡ refuses (refused 17 0 0)
  short-from all u f h =
      ⊎_elim
      (λ a.
      let new = file_of (in_kind k l) r in
      let more = length u + length new in
      let p = f more (omega arith) in
      let q = new-said l r s allowed bytes t k a.0 more has (omega arith) in
      let w : u ≡ new = cc in
      absurd (omega (arith, a.1, ap length w)))
      (⊎_elim
      (λ a. a.2)
      (λ a. absurd (none_first l k r a.0 a.1 all a.2)))
      (told l r s allowed bytes t k room has)

  -- DEMAND 3. And with 17 exactly when every sample that is there is in the new kind's range, and the new file does not find room
  pub refused-short : change_said l s k room ≡ refuses (refused 17 0 0) ↔ (AllInRange l k r × (u : List ℕ) × NewFile u × (room < length u))
  refused-short = (short-to, λ a. short-from a.0 a.1 a.2 a.3)

  -- DEMAND 3. And with no other refusal
  pub refused-only : (x : Refusal) → change_said l s k room ≡ refuses x → ((i : ℕ) × (j : ℕ) × (x ≡ refused 16 (i + 1) (3 + j))) ⊎ (x ≡ refused 17 0 0)
  refused-only x e =
      ⊎_elim
      (λ a. let q = a.2 in clash (cc))
      (⊎_elim
      (λ a. let q = a.2 in inr (cc))
      (λ a. let q = a.3 in inl (a.0, a.1, cc)))
      (told l r s allowed bytes t k room has)

-- a data file, and a change that is made
module _ (l : Layout) (r : ℕ → Row) (s : List ℕ) (k : Kind) (room : ℕ) (allowed : Allowed l) (bytes : every is_byte s ≡ true) (t : DataFile l r s) where
  -- DEMAND 3. The new file is the data file of the same rows in the new kind, and changing it back says the first file byte for byte, or for text the plain text with its rows
  pub change-done : (u : List ℕ) → change_said l s k room ≡ says u
      → DataFile (in_kind k l) r u
      × (first : List ℕ) × Restored l.kind l r s first × ((more : ℕ) → length first ≤ more → change_said (in_kind k l) u l.kind more ≡ says first)
  change-done u e =
      let has = (changing l s k room u e).has in
      ⊎_elim
      (λ a.
      let p = a.2 in
      let q : file_of (in_kind k l) r ≡ u = cc in
      rw (← q) (new-file l r s allowed bytes t k a.0, file_of l r, restored l r s allowed bytes t, λ more h. back-said l r s allowed bytes t k more has a.0 h))
      (⊎_elim (λ a. let q = a.2 in clash (cc)) (λ a. let q = a.3 in clash (cc)))
      (told l r s allowed bytes t k room has)

-- DEMAND 3. There is one plain text with given rows
pub plain-only : (l : Layout) (r : ℕ → Row) (s u : List ℕ) → l.kind ≡ Ascii → TextFile l r s → PlainText l s → TextFile l r u → PlainText l u → s ≡ u
plain-only l r s u text t p v q = plain-written l r s text t p ∙ sym (plain-written l r u text v q)
