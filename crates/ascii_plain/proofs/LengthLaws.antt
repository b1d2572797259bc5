-- Laws of the lengths in a plain row.
--     decimal-short, plain-short                   a number of 32 bits has at most 10 characters, and with its sign at most 11
--     missing-tested                               whether a sample is missing, as the machine has tested it
--     missing-none, missing-mark, missing-either   the characters of a missing sample: none, or in a marked text those of the mark's number
--     chars-missing, chars-there, chars-short      the characters of a sample: those where it is missing, else its number's, and so at most 11
--     samples-long                                 the samples have their length
--     samples-next, samples-within                 one sample more, and sample i within all
--     samples-most                                 a samples take at most 12 * a characters
--     length-line, length-text                     how long the line, and the row, is
--     text-line                                    CR LF takes 2 bytes more than the line
--     line-most                                    the line of a sized layout has at most 1,880 characters
-- Assumes nothing.
use mathlib.Core.Path.{◌≡◌, refl, sym, ap, ◌∙◌}
use mathlib.Core.Bool.{Bool, true, false}
use mathlib.Core.Logic.{⊎_elim}
use mathlib.Core.List.{List, [], ◌++◌}
use Prim.Native.Nat.{ℕ, zero, suc, ◌+◌, ◌*◌, ◌^◌, ◌<◌, ◌≤◌}
use native.Mathlib.Numerals.{add-one}
use native.Mathlib.Omega.{arith}
use lib.IntN.{ℤ, pos, negsuc}
use lib.ListN.{length, get_or, length-append}
use lib.Signed.{mag}
use mir.Syntax.{w32}
use mir.Val.{SFits, to_z, of_z}
use mir.ValLaws.{to_z-of_z}
use Rattle.ground.specs.Tables.{cat}
use Rattle.ground.proofs.Cases.{on_test, lt-or-ge}
use Rattle.ground.proofs.Tables.{length-cat}
use Rattle.numerals.specs.Decimals.{decimal_in, decimal, plain}
use Rattle.numerals.proofs.PlainLaws.{length-decimal-le}
use Rattle.numerals.proofs.WholeLaws.{plain-pos, plain-neg}
use Rattle.model.specs.declared.Layout.{Layout}
use Rattle.model.specs.declared.Row.{Row}
use Rattle.model.specs.Layouts.{Sized}
use Rattle.model.specs.Samples.{is_missing, fits, marked}
use Rattle.model.proofs.SampleLaws.{fits-small}
use Rattle.ascii_plain.specs.Rows.{head_text, missing_chars, sample_chars, sample_text, samples_text, status_text, statuses_text, line_of, text_of}
use Rattle.ascii_plain.specs.Inner.{head_length, samples_length, length_by, text_length}

pub decimal-short : (v : ℕ) → v < 2 ^ 32 → length (decimal v) ≤ 10
decimal-short v h = length-decimal-le 9 v (omega arith)

pub plain-short : (z : ℤ) → mag z < 2 ^ 31 → length (plain z) ≤ 11
plain-short (pos v) h = rw (plain-pos v) (omega (arith, decimal-short v (omega arith)))
plain-short (negsuc v) h = rw (plain-neg v) (omega (arith, decimal-short (suc v) (omega arith)))

pub missing-tested : (z : ℤ) (r : Bool) → SFits w32 z → r ≡ is_missing (to_z w32 (of_z w32 z)) → is_missing z ≡ r
missing-tested z r f e = sym (e ∙ ap is_missing (to_z-of_z w32 z f))

module _ (l : Layout) where
  pub missing-none : marked l ≡ false → missing_chars l ≡ []
  missing-none t = rw t

  pub missing-mark : marked l ≡ true → missing_chars l ≡ plain (pos 99999)
  unfolding decimal_in decimal plain
  missing-mark t = rw t

  -- what is true of both is true of them
  pub missing-either : (P : List ℕ → Type 0) → P [] → P (plain (pos 99999)) → P (missing_chars l)
  missing-either P none mark = on_test (marked l) (λ t. rw (missing-mark t) mark) (λ t. rw (missing-none t) none)

module _ (l : Layout) (z : ℤ) where
  pub chars-missing : is_missing z ≡ true → sample_chars l z ≡ missing_chars l
  unfolding sample_chars
  chars-missing t = rw t

  pub chars-there : is_missing z ≡ false → sample_chars l z ≡ plain z
  unfolding sample_chars
  chars-there t = rw t

  pub chars-short : mag z < 2 ^ 31 → length (sample_chars l z) ≤ 11
  chars-short h =
      on_test (is_missing z)
      (λ t. rw (chars-missing t) (missing-either l (λ x. length x ≤ 11) (omega arith) (plain-short (pos 99999) (omega arith))))
      (λ t. rw (chars-there t) (plain-short z h))

module _ (l : Layout) (zs : List ℤ) where
  pub samples-long : (a : ℕ) → length (cat (sample_text l zs) a) ≡ samples_length l zs a
  samples-long zero = refl
  samples-long (suc a) = length-append (cat (sample_text l zs) a) _ ∙ omega (arith, samples-long a)

  pub samples-next : (i : ℕ) → samples_length l zs (i + 1) ≡ samples_length l zs i + (1 + length (sample_chars l (get_or zs i (pos 0))))
  samples-next i = rw add-one

  pub samples-within : (i a : ℕ) → i < a → samples_length l zs i + (1 + length (sample_chars l (get_or zs i (pos 0)))) ≤ samples_length l zs a
  samples-within i zero h = absurd (omega arith)
  samples-within i (suc a) h =
      ⊎_elim
      (λ k. omega (arith, samples-within i a k))
      (λ (k : a ≤ i). let e : i ≡ a = omega arith in rw e (omega arith))
      (lt-or-ge i a)

  pub samples-most : (a : ℕ) → ((i : ℕ) → i < a → fits l (get_or zs i (pos 0)) ≡ true) → samples_length l zs a ≤ 12 * a
  samples-most zero h = omega arith
  samples-most (suc a) h =
      let z = get_or zs a (pos 0) in
      omega (arith, samples-most a (λ i k. h i (omega arith)), chars-short l z (fits-small l z (h a (omega arith))))

head-long : (n t : ℕ) → length (head_text n t) ≡ head_length n t
head-long n t = length-append (decimal n) _ ∙ omega arith

statuses-long : (d : ℕ) (s : List Bool) → length (statuses_text d s) ≡ d * 2
statuses-long d s = length-cat (status_text s) 2 (λ i. refl) d

module _ (l : Layout) (n : ℕ) (r : Row) where
  pub length-line : length (line_of l n r) ≡ head_length n r.time + (samples_length l r.samples l.analogs + 2 * l.statuses)
  unfolding line_of
  length-line =
      let h = head_text n r.time in
      let z = samples_text l r.samples in
      let s = statuses_text l.statuses r.statuses in
      length-append h (z ++ s)
      ∙ omega (arith, length-append z s, head-long n r.time, samples-long l r.samples l.analogs, statuses-long l.statuses r.statuses)

  pub text-line : text_length l n r ≡ length (line_of l n r) + 2
  unfolding length_by
  text-line = omega (arith, length-line)

  pub length-text : text_length l n r ≡ length (text_of l n r)
  unfolding text_of
  length-text = text-line ∙ sym (length-append (line_of l n r) _)

  pub line-most : Sized l → n < 2 ^ 32 → r.time < 2 ^ 32
      → ((i : ℕ) → i < l.analogs → fits l (get_or r.samples i (pos 0)) ≡ true) → length (line_of l n r) ≤ 1880
  line-most s hn ht fit =
      let z = samples-most l r.samples l.analogs fit in
      omega (arith, length-line, decimal-short n hn, decimal-short r.time ht, s.analogs, s.statuses)
