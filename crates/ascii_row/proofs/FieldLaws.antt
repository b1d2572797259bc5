-- Laws of the fields of a text row.
--     timestamp-told, time-below  a timestamp that is read is the field's count, and below 2 ^ 32
--     MissingTold, missing-told, told-missing     the field of a missing sample, by the text: empty, or in a marked text the mark; and the other way round
--     whole-missing               a whole number is that of a missing sample where it is the mark of a marked text
--     SampleTold, sample-told, told-sample     what a field says that is read as a sample: missing, or its whole number; and the other way round
--     no-sample, no_number        a whole number that is neither, and characters that are none, are bad
--     whole-some                  a field that is read as a whole number is not empty
--     told-fits, sample-fits      what is read as a sample can be written
--     time-read, sample-read      what a field that is fine is read as
--     time-fine, sample-fine      what is read as a count or a whole number in its range is fine, and so is the field of a missing sample
--     status-told, status-not     what is a status and what is not, by its length
-- Assumes nothing.
use mathlib.Core.Path.{◌≡◌, refl, ◌∙◌}
use mathlib.Core.Bool.{true, false, not, ◌&&◌, ◌||◌}
use mathlib.Core.Logic.{◌⊎◌, inl, inr}
use mathlib.Core.List.{List, [], ◌∷◌}
use Prim.Native.Nat.{ℕ, ◌<◌, ◌^◌, ◌≤◌}
use native.Mathlib.Omega.{arith}
use borrow.Author.Tests.{leb-true, le-leb, ne_eqb, eqb-true}
use lib.Dec.{eqb, leb}
use lib.IntN.{ℤ, pos, negsuc}
use lib.ListN.{length, get_or}
use lib.Signed.{lt_z}
use Rattle.ground.proofs.Cases.{on_test}
use Rattle.ground.proofs.Every.{and_split}
use Rattle.ground.proofs.Walk.{done}
use Rattle.std.proofs.Common.{None, Option, Some}
use Rattle.numerals.specs.Counts.{length_in, read_count, count_in}
use Rattle.numerals.specs.Wholes.{read_whole}
use Rattle.model.specs.declared.Kind.{Kind}
use Rattle.model.specs.declared.Kind.TheVariants.{Ascii, Binary, Binary32}
use Rattle.model.specs.declared.Edition.{Edition}
use Rattle.model.specs.declared.Edition.TheVariants.{Y2013, Y1999}
use Rattle.model.specs.declared.Layout.{Layout}
use Rattle.model.specs.Kinds.{lowest_of, highest_of}
use Rattle.model.specs.Samples.{missing, holds, fits, marked, is_mark}
use Rattle.model.specs.Rows.{latest_time}
use Rattle.model.proofs.SampleLaws.{missing-fits, there-fits, mark-out}
use Rattle.ascii_row.specs.Fields.{at_most, in_range, read_timestamp, is_mark_in, is_missing_field, read_sample, is_status, is_count, is_whole, whole_in, time_in, sample_in}

most-told : (m : ℕ) (k : Option ℕ) (v : ℕ) → at_most m k ≡ Some v → (k ≡ Some v) × (v ≤ m)
most-told m (Some w) v e =
    on_test (leb w m)
    (λ t. let q : Some w ≡ Some v = rw t at e in let s : w ≡ v = cc in (q, rw s at (leb-true w m t)))
    (λ t. let q : None ≡ Some v = rw t at e in let s : v ≡ m = cc in (cc, omega arith))
most-told m None v e = let s : v ≡ m = cc in (cc, omega arith)

pub timestamp-told : (f : List ℕ) (v : ℕ) → read_timestamp f ≡ Some v → (read_count 1 13 f ≡ Some v) × (v < 2 ^ 32)
unfolding read_timestamp
timestamp-told f v e = let t = most-told latest_time (read_count 1 13 f) v e in (t.0, omega arith)

count-below : (m : ℕ) (k : Option ℕ) → 1 ≤ m → ((v : ℕ) → k ≡ Some v → v < m) → count_in k < m
count-below m (Some v) h f = f v refl
count-below m None h f = h

pub time-below : (f : List ℕ) → time_in f < 2 ^ 32
unfolding time_in
time-below f = count-below (2 ^ 32) (read_timestamp f) (omega arith) (λ v e. (timestamp-told f v e).1)

-- a field that is read as the sample z: that of a missing one, and z is its place; or its whole number, which is a sample of the layout
abbrev pub SampleTold : Layout → List ℕ → ℤ → Type 0
SampleTold l f z = ((z ≡ missing) × (is_missing_field l f ≡ true)) ⊎ ((read_whole f ≡ Some z) × (holds l z ≡ true))

-- the field of a missing sample, by the text
abbrev pub MissingTold : Layout → List ℕ → Type 0
MissingTold l f = ((marked l ≡ false) × (f ≡ [])) ⊎ ((marked l ≡ true) × (read_whole f ≡ Some (pos 99999)))

pub whole-some : (f : List ℕ) (z : ℤ) → read_whole f ≡ Some z → eqb (length f) 0 ≡ false
unfolding read_whole length_in
whole-some [] z e = let q : None ≡ Some z = e in cc
whole-some (b ∷ f) z e = ne_eqb (length (b ∷ f)) 0 (λ q. omega arith)

is-mark : (k : Option ℤ) → is_mark_in k ≡ true → k ≡ Some (pos 99999)
unfolding is_mark
is-mark (Some (pos n)) e = rw (eqb-true n 99999 e)
is-mark (Some (negsuc n)) e = cc
is-mark None e = cc

-- zero is within every range
zero-within : (k : Kind) (e : Edition) → not (lt_z (pos 0) (lowest_of k e)) && not (lt_z (highest_of k e) (pos 0)) ≡ true
zero-within Ascii Y2013 = refl
zero-within Ascii Y1999 = refl
zero-within Binary e = refl
zero-within Binary32 e = refl

module _ (l : Layout) where
  pub missing-told : (f : List ℕ) → is_missing_field l f ≡ true → MissingTold l f
  unfolding is_missing_field
  missing-told f e =
      on_test (marked l)
      (λ t. inr (t, is-mark (read_whole f) (rw t at e)))
      (λ t. inl (t, let q = eqb-true (length f) 0 (rw t at e) in done f 0 (omega arith)))

  pub told-missing : (f : List ℕ) → MissingTold l f → is_missing_field l f ≡ true
  unfolding is_missing_field is_mark
  told-missing f (inl (t, n)) = rw (t, n)
  told-missing f (inr (t, e)) = rw (t, e)

  pub whole-missing : (f : List ℕ) (z : ℤ) → read_whole f ≡ Some z → is_missing_field l f ≡ (marked l && is_mark z)
  unfolding is_missing_field
  whole-missing f z e = on_test (marked l) (λ t. rw (t, e)) (λ t. rw (t, whole-some f z e))

  -- the field of a sample is not that of a missing one
  not-missing : (f : List ℕ) (z : ℤ) → read_whole f ≡ Some z → holds l z ≡ true → is_missing_field l f ≡ false
  not-missing f z e h =
      on_test (marked l && is_mark z)
      (λ t. let s = and_split (marked l) (is_mark z) t in let q = mark-out l z s.0 s.1 in cc)
      (λ t. whole-missing f z e ∙ t)

  range-told : (k : Option ℤ) (z : ℤ) → in_range l k ≡ Some z → (k ≡ Some z) × (holds l z ≡ true)
  range-told (Some y) z e =
      on_test (holds l y)
      (λ t. let q : Some y ≡ Some z = rw t at e in let s : y ≡ z = cc in (q, rw s at t))
      (λ t. let q : None ≡ Some z = rw t at e in (cc, cc))
  range-told None z e = (cc, cc)

  pub sample-told : (f : List ℕ) (z : ℤ) → read_sample l f ≡ Some z → SampleTold l f z
  unfolding read_sample
  sample-told f z e =
      on_test (is_missing_field l f)
      (λ t. let q : Some missing ≡ Some z = rw t at e in inl (cc, t))
      (λ t. inr (range-told (read_whole f) z (rw t at e)))

  pub told-sample : (f : List ℕ) (z : ℤ) → SampleTold l f z → read_sample l f ≡ Some z
  unfolding read_sample
  told-sample f z (inl (e, m)) = rw (m, e)
  told-sample f z (inr (e, h)) = rw (not-missing f z e h, e, h)

  pub no-sample : (f : List ℕ) (z : ℤ) → read_whole f ≡ Some z → marked l && is_mark z ≡ false → holds l z ≡ false → read_sample l f ≡ None
  unfolding read_sample
  no-sample f z e m h = rw (whole-missing f z e, m, e, h)

  pub no_number : (f : List ℕ) → read_whole f ≡ None → eqb (length f) 0 ≡ false → read_sample l f ≡ None
  unfolding read_sample is_missing_field
  no_number f e n = on_test (marked l) (λ t. rw (t, e)) (λ t. rw (t, n, e))

  pub told-fits : (f : List ℕ) (z : ℤ) → SampleTold l f z → fits l z ≡ true
  told-fits f z (inl (e, n)) = rw e (missing-fits l)
  told-fits f z (inr (e, h)) = there-fits l z (λ t. h)

  whole-fits : (k : Option ℤ) → ((z : ℤ) → k ≡ Some z → fits l z ≡ true) → fits l (whole_in k) ≡ true
  unfolding holds
  whole-fits (Some z) f = f z refl
  whole-fits None f = there-fits l (pos 0) (λ t. zero-within l.kind l.edition)

  pub sample-fits : (f : List ℕ) → fits l (sample_in l f) ≡ true
  unfolding sample_in
  sample-fits f = whole-fits (read_sample l f) (λ z e. told-fits f z (sample-told f z e))

count-read : (k : Option ℕ) → is_count k ≡ true → k ≡ Some (count_in k)
count-read (Some v) h = refl
count-read None h = cc

pub time-read : (f : List ℕ) → is_count (read_timestamp f) ≡ true → read_count 1 13 f ≡ Some (time_in f)
unfolding time_in
time-read f h = (timestamp-told f (time_in f) (count-read (read_timestamp f) h)).0

whole-read : (k : Option ℤ) → is_whole k ≡ true → k ≡ Some (whole_in k)
whole-read (Some z) h = refl
whole-read None h = cc

pub sample-read : (l : Layout) (f : List ℕ) → is_whole (read_sample l f) ≡ true → SampleTold l f (sample_in l f)
unfolding sample_in
sample-read l f h = sample-told l f (sample_in l f) (whole-read (read_sample l f) h)

pub time-fine : (f : List ℕ) (v : ℕ) → read_count 1 13 f ≡ Some v → v ≤ latest_time → is_count (read_timestamp f) ≡ true
unfolding read_timestamp
time-fine f v e h = rw (e, le-leb v latest_time h)

pub sample-fine : (l : Layout) (f : List ℕ) (z : ℤ) → SampleTold l f z → is_whole (read_sample l f) ≡ true
sample-fine l f z t = rw (told-sample l f z t)

pub status-told : (f : List ℕ) → length f ≡ 1 → is_status f ≡ (eqb (get_or f 0 0) 48 || eqb (get_or f 0 0) 49)
unfolding is_status
status-told [] h = absurd (omega arith)
status-told (b ∷ []) h = refl
status-told (b ∷ c ∷ f) h = absurd (omega arith)

pub status-not : (f : List ℕ) → (length f ≡ 1 → ⊥) → is_status f ≡ false
unfolding is_status
status-not [] h = refl
status-not (b ∷ []) h = absurd (h refl)
status-not (b ∷ c ∷ f) h = refl
