-- Laws of the row that bytes are.
--     check-told       what a check that finds nothing says
--     check-only, check-tabled     a check refuses only with 12 at field 1 or with 13, so with reasons in the table of numbers
--     row_has          every place that was read has a number
--     row_fits         and so fits, in a kind that is not text
--     row-trimmed      what was read has its places past A and D zero
-- Assumes nothing.
use mathlib.Core.Path.{◌≡◌}
use mathlib.Core.Bool.{true, false}
use mathlib.Core.List.{List}
use Prim.Native.Nat.{ℕ, ◌+◌, ◌*◌, ◌<◌}
use native.Mathlib.Omega.{arith}
use borrow.Author.Tests.{eqb-true}
use lib.Dec.{eqb}
use lib.IntN.{pos}
use lib.ListN.{get_or}
use Rattle.ground.specs.Said.{says, must}
use Rattle.ground.specs.Tables.{part, every}
use Rattle.ground.proofs.SaidLaws.{must-told, must-holds}
use Rattle.ground.proofs.RefusalLaws.{RefusesOnly, only-must, only_then}
use Rattle.words.specs.Words.{word_of, is_byte}
use Rattle.words.proofs.WordLaws.{word_of-part-lt}
use Rattle.model.specs.declared.Kind.TheVariants.{Ascii}
use Rattle.model.specs.declared.Layout.{Layout}
use Rattle.model.specs.declared.Refusal.{Refusal}
use Rattle.model.specs.Kinds.{width_of, half_of}
use Rattle.model.specs.Refusals.{refused}
use Rattle.model.specs.Rows.{trimmed, misfit}
use Rattle.model.specs.Inner.{HasWord}
use Rattle.model.proofs.NumberLaws.{RefusalTabled, RefusesTabled}
use Rattle.model.proofs.KindLaws.{half_le, kind-half-twice}
use Rattle.binary_row.specs.Rows.{samples_end, row_number, samples_part, words_part, bytes_sample, word_status, padding_free, check_row, row_of}
use Rattle.ground.proofs.Filled.{get_or-padded, padded-again}
use Rattle.model.proofs.SampleLaws.{word-has, word_fits}
use Rattle.model.proofs.FitLaws.{all-misfit}
use Rattle.words.proofs.WordLaws.{bytes-part}

pub check-told : (l : Layout) (n : ℕ) (b : List ℕ) → check_row l n b ≡ says tt → (row_number b ≡ n) × (padding_free l.statuses (words_part l b) ≡ true)
unfolding check_row
check-told l n b e =
    let number = eqb (row_number b) n in
    let free = padding_free l.statuses (words_part l b) in
    let t = must-told number (refused 12 n 1) (must free (refused 13 n 0)) tt e in
    (eqb-true (row_number b) n t.0, must-holds free (refused 13 n 0) t.1)

module _ (l : Layout) (b : List ℕ) where
  pub row_has : every is_byte b ≡ true → (i : ℕ) → i < l.analogs → HasWord (half_of l.kind) (get_or (row_of l b).samples i (pos 0))
  unfolding row_of
  row_has h i q =
      let k = l.kind in
      let p = samples_part l b in
      let u : word_of (part (i * width_of k) (i * width_of k + width_of k) p) < half_of k + half_of k
      = rw kind-half-twice (word_of-part-lt p (i * width_of k) (i * width_of k + width_of k) (width_of k) (bytes-part 8 (samples_end l) b h) (omega arith)) in
      rw (get_or-padded (bytes_sample (width_of k) (half_of k) p) l.analogs 96 i (pos 0) (pos 0) q) (word-has (half_of k) (half_le k) _ u)

  pub row_fits : (l.kind ≡ Ascii → ⊥) → every is_byte b ≡ true → misfit l (row_of l b).samples ≡ l.analogs
  row_fits binary h =
      let zs = (row_of l b).samples in
      all-misfit l zs (λ i q. word_fits l (get_or zs i (pos 0)) binary (row_has h i q))

pub row-trimmed : (l : Layout) (b : List ℕ) → trimmed l (row_of l b) ≡ row_of l b
unfolding trimmed row_of
row-trimmed l b =
    let k = l.kind in
    rw (
      padded-again (bytes_sample (width_of k) (half_of k) (samples_part l b)) l.analogs 96 (pos 0),
      padded-again (word_status (words_part l b)) l.statuses 256 false,
    )

pub check-only : (P : Refusal → Type 0) (n : ℕ) → P (refused 12 n 1) → P (refused 13 n 0) → (l : Layout) (b : List ℕ) → RefusesOnly P (check_row l n b)
unfolding check_row
check-only P n number padding l b =
    let same = eqb (row_number b) n in
    let free = padding_free l.statuses (words_part l b) in
    only_then P (must same (refused 12 n 1)) (must free (refused 13 n 0))
    (only-must P same (refused 12 n 1) (λ e. number))
    (λ e. only-must P free (refused 13 n 0) (λ f. padding))

pub check-tabled : (l : Layout) (n : ℕ) (b : List ℕ) → RefusesTabled (check_row l n b)
check-tabled l n b = check-only RefusalTabled n tt tt l b
