-- Data files of every kind, exactly, on the calls.
--     as-text, as-binary         a data file, by the kind
--     same-file                  the same rows, where there are rows
--     fine-exactly               a file is fine, and its rows are r 0, r 1, .., exactly when it is the data file of these rows
--     one-file                   a file is the data file of one row of rows alone
--     data-exactly               a file is accepted, and these rows are shown, exactly when the layout is allowed and it is the data file of these rows
--     accepted-rows              an accepted file is the data file of the rows that it shows
--     data-refused               a file is refused exactly when it is the data file of no rows
--     row-shown                  row n is shown, and is q, exactly when the file is the data file of rows of which q is the n-th
--     row-refused                a row is refused exactly when the file is, or when there is no such row
-- Assumes nothing.
use mathlib.Core.Path.{◌≡◌, refl, sym, ap, subst, ◌∙◌}
use mathlib.Core.Logic.{◌↔◌, ◌⊎◌, inl, inr, ⊎_elim}
use mathlib.Core.Bool.{true}
use mathlib.Core.List.{List}
use Prim.Native.Nat.{ℕ, ◌+◌, ◌-◌, ◌<◌, ◌≤◌}
use native.Mathlib.Omega.{arith}
use borrow.Author.Tests.{le-leb}
use Rattle.ground.specs.Said.{Said, says, refuses, ◌>>◌, must, answer_of}
use Rattle.ground.specs.Tables.{every}
use Rattle.ground.proofs.Cases.{lt-or-ge, clash}
use Rattle.ground.proofs.SaidLaws.{must-told, then-told}
use Rattle.words.specs.Words.{is_byte}
use Rattle.model.specs.declared.Kind.{Kind}
use Rattle.model.specs.declared.Kind.TheVariants.{Ascii, Binary, Binary32}
use Rattle.model.specs.declared.Layout.{Layout}
use Rattle.model.specs.declared.Row.{Row}
use Rattle.model.specs.declared.Refusal.{Refusal}
use Rattle.std.proofs.Common.{Err, Ok, Result}
use Rattle.model.specs.Layouts.{is_sized, Sized}
use Rattle.model.specs.Refusals.{refused}
use Rattle.model.proofs.LayoutLaws.{sized, sized-has, sized-is}
use Rattle.binary_file.specs.Files.{check_binary, binary_row}
use Rattle.ascii_file.specs.Files.{check_text, text_row}
use Rattle.data.specs.Files.{file_fine, row_at, has_row, check_file, show_row}
use Rattle.data.proofs.Laws.{row_told, accepted-fine}
use Rattle.row_bytes.proofs.KindLaws.{text-kind, binary-kind, by-kind}
use Rattle.paper.specs.Lines.{Line}
use Rattle.paper.specs.Data.{TextLine, TextFile, BinaryRow, BinaryFile, Allowed, FileOf, DataFile}
use Rattle.exact_data.proofs.BinaryLaws.{binary-exactly}
use Rattle.exact_data.proofs.TextLaws.{text-exactly}

-- a data file of a kind
module _ (l : Layout) (r : ℕ → Row) (s : List ℕ) where
  pub as-text : (k : Kind) → k ≡ Ascii → FileOf k l r s ↔ TextFile l r s
  as-text k e = rw e (λ t. t, λ t. t)

  pub as-binary : (k : Kind) → (k ≡ Ascii → ⊥) → FileOf k l r s ↔ BinaryFile l r s
  as-binary Ascii e = absurd (e refl)
  as-binary Binary e = (λ t. t, λ t. t)
  as-binary Binary32 e = (λ t. t, λ t. t)

-- only the rows that there are count
module _ (l : Layout) (r q : ℕ → Row) (s : List ℕ) (e : (i : ℕ) → i < l.rows → r i ≡ q i) where
  same_text : TextFile l r s → TextFile l q s
  same_text t =
      record {
        line = t.line;
        end = t.end;
        whole = t.whole;
        each = λ i h. subst (λ (x : Row). Line (TextLine l (i + 1) x) (t.line i)) (e i h) (t.each i h);
        short = t.short;
        ends = t.ends;
      }

  same-binary : BinaryFile l r s → BinaryFile l q s
  same-binary t = record { bytes = t.bytes; whole = t.whole; each = λ i h. subst (λ (x : Row). BinaryRow l (i + 1) x (t.bytes i)) (e i h) (t.each i h) }

  pub same-file : (k : Kind) → FileOf k l r s → FileOf k l q s
  same-file Ascii = same_text
  same-file Binary = same-binary
  same-file Binary32 = same-binary

-- the rows of s are r 0, r 1, ..
abbrev pub RowsAre : Layout → (ℕ → Row) → List ℕ → Type 0
RowsAre l r s = (i : ℕ) → i < l.rows → row_at l s i ≡ r i

-- a file of a sized layout
module _ (l : Layout) (s : List ℕ) (size : Sized l) (bytes : every is_byte s ≡ true) where
  -- by what a check and a reader of the kind say
  fine-by : (r : ℕ → Row) (check : Said Refusal (Unit {0})) (row : ℕ → Row) (F : Type 0) → ((check ≡ says tt) × ((i : ℕ) → i < l.rows → row i ≡ r i)) ↔ F
      → file_fine l s ≡ check → ((i : ℕ) → row_at l s i ≡ row i) → DataFile l r s ↔ F → ((file_fine l s ≡ says tt) × RowsAre l r s) ↔ DataFile l r s
  fine-by r check row F a f g d =
      (λ x. d.1 (a.0 (sym f ∙ x.0, λ i h. sym (g i) ∙ x.1 i h)), λ t. let x = a.1 (d.0 t) in (f ∙ x.0, λ i h. g i ∙ x.1 i h))

  fine-text : (r : ℕ → Row) → l.kind ≡ Ascii → ((file_fine l s ≡ says tt) × RowsAre l r s) ↔ DataFile l r s
  unfolding file_fine row_at
  fine-text r e =
      fine-by r (check_text l s) (λ i. text_row l i s) (TextFile l r s) (text-exactly l e r s)
      (text-kind l.kind (check_text l s) (check_binary l s) e) (λ i. text-kind l.kind (text_row l i s) (binary_row l i s) e) (as-text l r s l.kind e)

  fine-binary : (r : ℕ → Row) → (l.kind ≡ Ascii → ⊥) → ((file_fine l s ≡ says tt) × RowsAre l r s) ↔ DataFile l r s
  unfolding file_fine row_at
  fine-binary r e =
      fine-by r (check_binary l s) (λ i. binary_row l i s) (BinaryFile l r s) (binary-exactly l r s size bytes)
      (binary-kind l.kind (check_text l s) (check_binary l s) e) (λ i. binary-kind l.kind (text_row l i s) (binary_row l i s) e) (as-binary l r s l.kind e)

  pub fine-exactly : (r : ℕ → Row) → ((file_fine l s ≡ says tt) × RowsAre l r s) ↔ DataFile l r s
  fine-exactly r = by-kind l.kind (fine-text r) (fine-binary r)

  pub one-file : (r q : ℕ → Row) → DataFile l r s → DataFile l q s → (i : ℕ) → i < l.rows → r i ≡ q i
  one-file r q t u i h = sym (((fine-exactly r).1 t).1 i h) ∙ ((fine-exactly q).1 u).1 i h

-- row n of a file that is fine
shows : (l : Layout) (s : List ℕ) (n : ℕ) → is_sized l ≡ true → file_fine l s ≡ says tt → has_row l n ≡ true → show_row l s n ≡ Ok (row_at l s (n - 1))
unfolding show_row
shows l s n a f h = rw (a, h, f)

has : (l : Layout) (n : ℕ) → 1 ≤ n → n ≤ l.rows → has_row l n ≡ true
unfolding has_row
has l n h k = rw (le-leb 1 n h, le-leb n l.rows k)

module _ (l : Layout) (s : List ℕ) (bytes : every is_byte s ≡ true) where
  -- row i, counted from 0
  shows-next : (i : ℕ) → is_sized l ≡ true → file_fine l s ≡ says tt → i < l.rows → show_row l s (i + 1) ≡ Ok (row_at l s i)
  shows-next i a f h =
      let e : i + 1 - 1 ≡ i = omega arith in
      rw e at (shows l s (i + 1) a f (has l (i + 1) (omega arith) (omega arith)))

  data-to : (r : ℕ → Row) → check_file l s ≡ Ok tt → ((i : ℕ) → i < l.rows → show_row l s (i + 1) ≡ Ok (r i)) → Allowed l × DataFile l r s
  data-to r e rows =
      let a = accepted-fine l s e in (
        (sized l a.0, sized-has l a.0),
        (fine-exactly l s (sized l a.0) bytes r).0
            (a.1, λ i h. let q : Ok (row_at l s i) ≡ Ok (r i) = sym (shows-next i a.0 a.1 h) ∙ rows i h in cc),
      )

  data-from : (r : ℕ → Row) → Allowed l → DataFile l r s → (check_file l s ≡ Ok tt) × ((i : ℕ) → i < l.rows → show_row l s (i + 1) ≡ Ok (r i))
  unfolding check_file
  data-from r z t =
      let f = (fine-exactly l s z.0 bytes r).1 t in
      let a = sized-is l z.0 z.1 in
      (rw (a, f.0), λ i h. shows-next i a f.0 h ∙ ap (λ (q : Row). Ok q) (f.1 i h))

  pub data-exactly : (r : ℕ → Row)
      → ((check_file l s ≡ Ok tt) × ((i : ℕ) → i < l.rows → show_row l s (i + 1) ≡ Ok (r i))) ↔ (Allowed l × DataFile l r s)
  data-exactly r = (λ x. data-to r x.0 x.1, λ x. data-from r x.0 x.1)

  -- the data file of no rows
  abbrev pub NoFile : Type 0
  NoFile = (r : ℕ → Row) → Allowed l → DataFile l r s → ⊥

  pub accepted-rows : check_file l s ≡ Ok tt → Allowed l × DataFile l (row_at l s) s
  accepted-rows e =
      let a = accepted-fine l s e in
      let z = sized l a.0 in
      ((z, sized-has l a.0), (fine-exactly l s z bytes (row_at l s)).0 (a.1, λ i h. refl))

  accepted-file : check_file l s ≡ Ok tt → NoFile → ⊥
  accepted-file e f = let t = accepted-rows e in f (row_at l s) t.0 t.1

  pub data-refused : NoFile ↔ ((x : Refusal) × (check_file l s ≡ Err x))
  data-refused = (λ f. decide f (check_file l s) refl, λ t r z u. let q : Err t.0 ≡ Ok tt = sym t.1 ∙ (data-from r z u).0 in clash (cc))
    where
      decide : NoFile → (a : Result (Unit {0}) Refusal) → check_file l s ≡ a → (x : Refusal) × (check_file l s ≡ Err x)
      decide f (Ok tt) e = absurd (accepted-file e f)
      decide f (Err x) e = (x, e)

  -- what stands behind a row that is shown
  abbrev say_row : ℕ → Said Refusal Row
  say_row n = must (is_sized l) (refused 10 0 0) >> (must (has_row l n) (refused 15 0 0) >> (file_fine l s >> says (row_at l s (n - 1))))

  said_row : (n : ℕ) (q : Row) → say_row n ≡ says q → (check_file l s ≡ Ok tt) × (has_row l n ≡ true)
  unfolding check_file
  said_row n q e =
      let a = must-told (is_sized l) (refused 10 0 0) _ q e in
      let b = must-told (has_row l n) (refused 15 0 0) _ q a.1 in
      let c = then-told (file_fine l s) (says (row_at l s (n - 1))) q b.1 in
      (rw (a.0, c.0), b.0)

  said-shown : (n : ℕ) (q : Row) (x : Said Refusal Row) → answer_of x ≡ Ok q → x ≡ says q
  said-shown n q (says p) e = cc
  said-shown n q (refuses r) e = clash (cc)

  shown-to : (n : ℕ) (q : Row) → show_row l s n ≡ Ok q → (r : ℕ → Row) × Allowed l × DataFile l r s × (1 ≤ n) × (n ≤ l.rows) × (q ≡ r (n - 1))
  unfolding show_row
  shown-to n q e =
      let b = said_row n q (said-shown n q (say_row n) e) in
      let a = accepted-fine l s b.0 in
      let t = accepted-rows b.0 in
      let k = row_told l n b.1 in
      let w : Ok q ≡ Ok (row_at l s (n - 1)) = sym e ∙ shows l s n a.0 a.1 b.1 in
      (row_at l s, t.0, t.1, k.0, k.1, cc)

  shown-from : (n : ℕ) (q : Row) → (r : ℕ → Row) × Allowed l × DataFile l r s × (1 ≤ n) × (n ≤ l.rows) × (q ≡ r (n - 1)) → show_row l s n ≡ Ok q
  shown-from n q (r, z, t, h, k, w) =
      let f = (fine-exactly l s z.0 bytes r).1 t in
      shows l s n (sized-is l z.0 z.1) f.0 (has l n h k) ∙ ap (λ (p : Row). Ok p) (f.1 (n - 1) (omega arith) ∙ sym w)

  pub row-shown : (n : ℕ) (q : Row) → show_row l s n ≡ Ok q ↔ ((r : ℕ → Row) × Allowed l × DataFile l r s × (1 ≤ n) × (n ≤ l.rows) × (q ≡ r (n - 1)))
  row-shown n q = (shown-to n q, shown-from n q)

  -- there is no row n
  abbrev pub NoRow : ℕ → Type 0
  NoRow n = (n < 1) ⊎ (l.rows < n)

  no_row : (n : ℕ) → has_row l n ≡ true → NoRow n → ⊥
  no_row n h k = let t = row_told l n h in ⊎_elim (λ q. omega arith) (λ q. omega arith) k

  row-to : (n : ℕ) → NoFile ⊎ NoRow n → (x : Refusal) × (show_row l s n ≡ Err x)
  unfolding show_row
  row-to n w = decide (say_row n) refl
    where
      decide : (y : Said Refusal Row) → say_row n ≡ y → (x : Refusal) × (show_row l s n ≡ Err x)
      decide (says q) e = let a = said_row n q e in absurd (⊎_elim (accepted-file a.0) (no_row n a.1) w)
      decide (refuses x) e = (x, ap answer_of e)

  row_from : (n : ℕ) → (x : Refusal) × (show_row l s n ≡ Err x) → NoFile ⊎ NoRow n
  row_from n t =
      ⊎_elim
      (λ (h : n < 1). inr (inl h))
      (λ (h : 1 ≤ n).
      ⊎_elim
      (λ (k : l.rows < n). inr (inr k))
      (λ (k : n ≤ l.rows).
      inl (λ r z u.
      let f = (fine-exactly l s z.0 bytes r).1 u in
      let e = shows l s n (sized-is l z.0 z.1) f.0 (has l n h k) in
      let q : Err t.0 ≡ Ok (row_at l s (n - 1)) = sym t.1 ∙ e in
      clash (cc)))
      (lt-or-ge l.rows n))
      (lt-or-ge n 1)

  pub row-refused : (n : ℕ) → (NoFile ⊎ NoRow n) ↔ ((x : Refusal) × (show_row l s n ≡ Err x))
  row-refused n = (row-to n, row_from n)
