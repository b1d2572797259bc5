-- Rows that were written, standing in a data file.
--     row-fits-exactly           no sample of a row is a misfit exactly when each fits
--     fitting-exactly            so a row fits exactly when it can be written
--     lines-apart                a text that begins with a line begins with no other
--     same_lines                 so lines in a row are found again
--     row-stands                 where the bytes of a row that can be written stand in a data file as row n, row n of the file is that row, its places past A and D zero
--     rows-stand, bytes-stand    bytes of rows that can be written, one after the other, and an ending are the data file of these rows, and bytes
-- Assumes nothing.
use mathlib.Core.Path.{◌≡◌, refl, sym, ap, ◌∙◌}
use mathlib.Core.Logic.{◌↔◌, inl, inr}
use mathlib.Core.Bool.{true, ◌&&◌}
use mathlib.Core.List.{List, [], ◌∷◌, ◌++◌, append_assoc, append-nil}
use Prim.Native.Nat.{ℕ, zero, suc, ◌+◌, ◌-◌, ◌*◌, ◌≤◌, ◌<◌}
use native.Mathlib.Numerals.{add-one}
use native.Mathlib.Omega.{arith}
use borrow.Author.Tests.{lt-ltb, leb-true}
use lib.Dec.{leb}
use lib.IntN.{ℤ, pos}
use lib.ListN.{length, get_or}
use lib.Seq.{drop_at, take_at}
use Rattle.ground.specs.Tables.{cat, every}
use Rattle.ground.proofs.Every.{and_split, every_append, every-cat, every-imply}
use Rattle.ground.proofs.Tables.{cat-ext, cat-split}
use Rattle.words.specs.Words.{is_byte}
use Rattle.model.specs.declared.Kind.{Kind}
use Rattle.model.specs.declared.Kind.TheVariants.{Ascii, Binary, Binary32}
use Rattle.model.specs.declared.Layout.{Layout}
use Rattle.model.specs.declared.Row.{Row}
use Rattle.model.specs.Layouts.{Sized}
use Rattle.model.specs.Rows.{trimmed}
use Rattle.model.proofs.FitLaws.{misfit-all, all-misfit}
use Rattle.text.specs.Lines.{line_bytes}
use Rattle.binary_row.specs.Rows as binary
use Rattle.binary_bytes.specs.Rows.{binary_of}
use Rattle.binary_row.proofs.SizeLaws.{sizes}
use Rattle.binary_bytes.proofs.RowLaws as written
use Rattle.binary_file.specs.Files.{row_bytes, binary_row}
use Rattle.ascii_row.specs.Rows.{row_of}
use Rattle.ascii_plain.specs.Rows.{line_of, text_of}
use Rattle.ascii_plain.proofs.LengthLaws.{line-most}
use Rattle.ascii_plain.proofs.LineLaws.{line-bytes-plain}
use Rattle.ascii_file.proofs.RoundLaws.{line-fine, line-back}
use Rattle.row_bytes.specs.Rows.{bytes_of}
use Rattle.row_bytes.proofs.KindLaws.{by-kind}
use Rattle.row_bytes.proofs.RowLaws.{bytes-text, bytes-binary}
use Rattle.data.specs.Files.{misfit_of}
use Rattle.data.proofs.FileLaws.{Writes, each_fits}
use Rattle.paper.specs.Lines.{ended}
use Rattle.paper.specs.Data as page
use Rattle.paper.specs.Data.{row_sample, TextEnding, TextFile, BinaryFile, DataFile}
use Rattle.paper.specs.Written.{FitsIn, Fitting, RowsOf, Stands, EndingOf}
use Rattle.exact_data.proofs.NumberLaws.{fits-exactly}
use Rattle.exact_data.proofs.BinaryLaws.{row-exactly, binary-exactly}
use Rattle.exact_data.proofs.TextLaws.{line-exactly, lines-front}
use Rattle.exact_data.proofs.FileLaws.{as-text, as-binary}

pub row-fits-exactly : (l : Layout) (r : Row) → misfit_of l r ≡ l.analogs ↔ ((j : ℕ) → j < l.analogs → FitsIn l (row_sample r j))
unfolding misfit_of
row-fits-exactly l r =
    let z : ℕ → ℤ = λ j. get_or r.samples j (pos 0) in
    (λ e j h. (fits-exactly l (z j)).0 (misfit-all l r.samples e j h), λ f. all-misfit l r.samples (λ j h. (fits-exactly l (z j)).1 (f j h)))

pub fitting-exactly : (l : Layout) (r : Row) → Fitting l r ↔ Writes l r
fitting-exactly l r = (
  λ f. record { time = omega (arith, f.early); all = (row-fits-exactly l r).1 f.samples },
  λ w. record { early = omega (arith, w.time); samples = (row-fits-exactly l r).0 w.all },
)

-- no byte of a line is CR
no-cr : (b : ℕ) (x : List ℕ) → line_bytes (b ∷ x) ≡ true → 13 ≡ b → ⊥
no-cr b x h e =
    let s = and_split (leb 32 b && leb b 126) (line_bytes x) h in
    omega (arith, leb-true 32 b (and_split (leb 32 b) (leb b 126) s.0).0)

pub lines-apart : (x y a b : List ℕ) → line_bytes x ≡ true → line_bytes y ≡ true → x ++ 13 ∷ 10 ∷ a ≡ y ++ 13 ∷ 10 ∷ b → (x ≡ y) × (a ≡ b)
lines-apart [] [] a b h k e = (refl, cc)
lines-apart [] (d ∷ y) a b h k e = absurd (no-cr d y k (cc))
lines-apart (c ∷ x) [] a b h k e = absurd (no-cr c x h (cc))
lines-apart (c ∷ x) (d ∷ y) a b h k e =
    let p : c ≡ d = cc in
    let q : x ++ 13 ∷ 10 ∷ a ≡ y ++ 13 ∷ 10 ∷ b = cc in
    let t = lines-apart x y a b (and_split (leb 32 c && leb c 126) (line_bytes x) h).1 (and_split (leb 32 d && leb d 126) (line_bytes y) k).1 q in
    (rw (p, t.0), t.1)

pub same_lines : (f g : ℕ → List ℕ) (m : ℕ) (a b : List ℕ) → ((i : ℕ) → i < m → line_bytes (f i) ≡ true) → ((i : ℕ) → i < m → line_bytes (g i) ≡ true)
    → cat (λ i. ended (f i)) m ++ a ≡ cat (λ i. ended (g i)) m ++ b → ((i : ℕ) → i < m → f i ≡ g i) × (a ≡ b)
same_lines f g zero a b h k e = (λ i q. absurd (omega arith), e)
same_lines f g (suc m) a b h k e =
    let t = lines-apart (f 0) (g 0) (cat (λ i. ended (f (i + 1))) m ++ a) (cat (λ i. ended (g (i + 1))) m ++ b) (h 0 (omega arith)) (k 0 (omega arith))
    (sym (lines-front f m a) ∙ e ∙ lines-front g m b) in
    let u = same_lines (λ i. f (i + 1)) (λ i. g (i + 1)) m a b (λ i q. h (i + 1) (omega arith)) (λ i q. k (i + 1) (omega arith)) t.1 in
    (λ i q. by_first i q t.0 u.0, u.1)
  where
    by_first : (i : ℕ) → i < suc m → f 0 ≡ g 0 → ((j : ℕ) → j < m → f (j + 1) ≡ g (j + 1)) → f i ≡ g i
    by_first zero q p r = p
    by_first (suc i) q p r = rw add-one at (r i (omega arith))

-- a written row of text, with what follows it
line-front : (l : Layout) (n : ℕ) (r : Row) (rest : List ℕ) → l.kind ≡ Ascii → bytes_of l n r ++ rest ≡ line_of l n r ++ 13 ∷ 10 ∷ rest
unfolding text_of
line-front l n r rest e = ap (λ (x : List ℕ). x ++ rest) (bytes-text l e n r) ∙ append_assoc (line_of l n r) (13 ∷ 10 ∷ []) rest

-- a row that can be written stands in a file as row n
module _ (l : Layout) (s : List ℕ) (n : ℕ) (r : Row) (q : ℕ → Row) (size : Sized l) (there : (1 ≤ n) × (n ≤ l.rows)) (w : Writes l r) (st : Stands l n (bytes_of l n r) s) where
  -- a text begins, after n - 1 lines, with the row's line
  stands-text : l.kind ≡ Ascii → TextFile l q s → q (n - 1) ≡ trimmed l r
  stands-text e t =
      let m = n - 1 in
      let k = l.rows - n in
      let c : l.rows ≡ m + suc k = omega (arith, there.0, there.1) in
      let line = t.line in
      let b = as_rows l.kind e st.rows in
      let later : ℕ → List ℕ = λ i. line (m + i) in
      let rest = cat (λ i. ended (later (i + 1))) k ++ t.end in
      let front : s ≡ cat (λ i. ended (line i)) m ++ (line (m + 0) ++ 13 ∷ 10 ∷ rest)
      = t.whole
      ∙ ap (λ (x : ℕ). cat (λ i. ended (line i)) x ++ t.end) c
      ∙ ap (λ (x : List ℕ). x ++ t.end) (cat-split (λ i. ended (line i)) m (suc k))
      ∙ append_assoc (cat (λ i. ended (line i)) m) (cat (λ i. ended (later i)) (suc k)) t.end
      ∙ ap (λ (x : List ℕ). cat (λ i. ended (line i)) m ++ x) (lines-front later k t.end) in
      let own : s ≡ cat (λ i. ended (b.0 i)) m ++ (bytes_of l n r ++ st.after) = st.whole ∙ ap (λ (x : List ℕ). x ++ (bytes_of l n r ++ st.after)) b.1 in
      let x = (same_lines b.0 line m (bytes_of l n r ++ st.after) (line (m + 0) ++ 13 ∷ 10 ∷ rest) b.2 (λ i h. (t.each i (omega arith)).bytes) (sym own ∙ front)).1 in
      let p = line-front l n r st.after e in
      let y = (lines-apart (line_of l n r) (line (m + 0)) st.after rest (line-bytes-plain l n r) (t.each (m + 0) (omega arith)).bytes (sym p ∙ x)).0 in
      let z : m + 0 ≡ m = omega arith in
      sym ((line-exactly l e (m + 1) (line m) (q m)).1 (t.each m (omega arith)).is).1
      ∙ ap (row_of l) (sym (rw z at y)) ∙ line-back l n r (each_fits l r w)
    where
      as_rows : (k : Kind) → k ≡ Ascii → RowsOf k l (n - 1) st.before → RowsOf Ascii l (n - 1) st.before
      as_rows k e x = rw e at x

  -- the bytes of a row, after n - 1 rows, are its bytes
  stands-binary : (l.kind ≡ Ascii → ⊥) → every is_byte s ≡ true → BinaryFile l q s → q (n - 1) ≡ trimmed l r
  unfolding binary_row misfit_of
  stands-binary e bytes t =
      let m = n - 1 in
      let z = binary.row_size l in
      let b = binary_of l n r in
      let long : length st.before ≡ m * z = as_rows l.kind e st.rows ∙ rw (sizes l) in
      let here : s ≡ st.before ++ (b ++ st.after) = st.whole ∙ ap (λ (x : List ℕ). st.before ++ (x ++ st.after)) (bytes-binary l e n r) in
      let f : m * z + z - m * z ≡ z = omega arith in
      let found : row_bytes l m s ≡ b = rw (here, f, drop_at st.before (b ++ st.after) (m * z) long) (take_at b st.after z (written.length-row l n r)) in
      sym (((binary-exactly l q s size bytes).1 t).1 m (omega arith)) ∙ ap (binary.row_of l) found ∙ written.row_back l n r w.all w.time
    where
      as_rows : (k : Kind) → (k ≡ Ascii → ⊥) → RowsOf k l (n - 1) st.before → length st.before ≡ (n - 1) * page.row_size l
      as_rows Ascii e x = absurd (e refl)
      as_rows Binary e x = x
      as_rows Binary32 e x = x

  pub row-stands : every is_byte s ≡ true → DataFile l q s → q (n - 1) ≡ trimmed l r
  row-stands bytes t = by-kind l.kind (λ e. stands-text e ((as-text l q s l.kind e).0 t)) (λ e. stands-binary e bytes ((as-binary l q s l.kind e).0 t))

-- rows that can be written, one after the other
module _ (l : Layout) (r : ℕ → Row) (size : Sized l) (w : (i : ℕ) → i < l.rows → Writes l (r i)) where
  abbrev rows : List ℕ
  rows = cat (λ i. bytes_of l (i + 1) (r i)) l.rows

  text-stand : (end : List ℕ) → l.kind ≡ Ascii → TextEnding end → TextFile l (λ i. trimmed l (r i)) (rows ++ end)
  unfolding text_of
  text-stand end e h =
      let line : ℕ → List ℕ = λ i. line_of l (i + 1) (r i) in
      record {
        line = line;
        end = end;
        whole = ap (λ (x : List ℕ). x ++ end) (cat-ext (λ i. bytes_of l (i + 1) (r i)) (λ i. ended (line i)) l.rows (λ i k. bytes-text l e (i + 1) (r i)));
        each = λ i k.
            let f = each_fits l (r i) (w i k) in
            record {
              bytes = line-bytes-plain l (i + 1) (r i);
              is = (line-exactly l e (i + 1) (line i) (trimmed l (r i))).0 (line-fine l (i + 1) (r i) f (omega (arith, size.rows)), line-back l (i + 1) (r i) f);
            };
        short = λ i k. let f = each_fits l (r i) (w i k) in line-most l (i + 1) (r i) size (omega (arith, size.rows)) f.time f.samples;
        ends = h;
      }

  binary-stand : (end : List ℕ) → (l.kind ≡ Ascii → ⊥) → end ≡ [] → BinaryFile l (λ i. trimmed l (r i)) (rows ++ end)
  unfolding misfit_of
  binary-stand end e h =
      record {
        bytes = λ i. binary_of l (i + 1) (r i);
        whole = rw (h, append-nil) (cat-ext (λ i. bytes_of l (i + 1) (r i)) (λ i. binary_of l (i + 1) (r i)) l.rows (λ i k. bytes-binary l e (i + 1) (r i)));
        each = λ i k.
            (row-exactly l (i + 1) (trimmed l (r i)) (binary_of l (i + 1) (r i)) (written.bytes-row l (i + 1) (r i))).1
            (record {
              size = written.length-row l (i + 1) (r i);
              fine = written.row_fine l (i + 1) (r i) (omega (arith, size.rows));
              row = written.row_back l (i + 1) (r i) (w i k).all (w i k).time;
            });
      }

  -- and they are bytes
  text-bytes : (i : ℕ) → every is_byte (text_of l (i + 1) (r i)) ≡ true
  unfolding text_of
  text-bytes i =
      let line = line_of l (i + 1) (r i) in
      every_append is_byte line (13 ∷ 10 ∷ [])
      (every-imply (λ b. leb 32 b && leb b 126) is_byte line (λ b h. lt-ltb b 256 (omega (arith, leb-true b 126 (and_split (leb 32 b) (leb b 126) h).1))) (line-bytes-plain l (i + 1) (r i))) refl

  row-bytes : (i : ℕ) → every is_byte (bytes_of l (i + 1) (r i)) ≡ true
  row-bytes i =
      by-kind l.kind
      (λ e. rw (bytes-text l e (i + 1) (r i)) (text-bytes i))
      (λ e. rw (bytes-binary l e (i + 1) (r i)) (written.bytes-row l (i + 1) (r i)))

  pub bytes-stand : (end : List ℕ) → EndingOf l.kind end → every is_byte (rows ++ end) ≡ true
  bytes-stand end h = every_append is_byte rows end (every-cat is_byte (λ i. bytes_of l (i + 1) (r i)) l.rows (λ i k. row-bytes i)) (go l.kind h)
    where
      go : (k : Kind) → EndingOf k end → every is_byte end ≡ true
      go Ascii (inl e) = rw e
      go Ascii (inr (inl e)) = rw e
      go Ascii (inr (inr e)) = rw e
      go Binary e = rw e
      go Binary32 e = rw e

  pub rows-stand : (end : List ℕ) → EndingOf l.kind end → DataFile l (λ i. trimmed l (r i)) (rows ++ end)
  rows-stand end h =
      by-kind l.kind
      (λ e. (as-text l _ _ l.kind e).1 (text-stand end e (rw e at h)))
      (λ e. (as-binary l _ _ l.kind e).1 (binary-stand end e (none l.kind e h)))
    where
      none : (k : Kind) → (k ≡ Ascii → ⊥) → EndingOf k end → end ≡ []
      none Ascii e x = absurd (e refl)
      none Binary e x = x
      none Binary32 e x = x
