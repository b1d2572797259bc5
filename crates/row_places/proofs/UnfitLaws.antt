-- Laws of the places that fit: the search of ground, of places.
--     unfit-le       a place that does not fit is one of the row's, or there is none
--     all_fit        where none is found, each fits
--     time-small                   a time that fits is small
--     sample-fits, sample-small    the place of a sample that fits says that there is none, or it is a sample, and small
-- Assumes nothing.
use mathlib.Core.Path.{◌≡◌}
use mathlib.Core.Bool.{true, false, not, ◌&&◌, false≢true}
use mathlib.Core.List.{List}
use Prim.Native.Nat.{ℕ, ◌+◌, ◌<◌, ◌≤◌, ◌^◌}
use native.Mathlib.Omega.{arith}
use lib.Dec.{ltb}
use lib.IntN.{ℤ, pos, negsuc, nat_abs}
use lib.ListN.{get_or}
use lib.Signed.{lt_z, mag}
use borrow.Author.Tests.{ltb-false, le-ltb, le-leb, not-true}
use Rattle.ground.proofs.Every.{and_split}
use Rattle.ground.proofs.Search.{fail-none, fail-le}
use Rattle.model.specs.declared.Layout.{Layout}
use Rattle.model.specs.Kinds.{half_of}
use Rattle.model.specs.Samples.{is_none, holds}
use Rattle.model.specs.Rows.{latest_time}
use Rattle.model.proofs.KindLaws.{half_le}
use Rattle.model.proofs.SampleLaws.{size-mag, holds-size}
use Rattle.row_places.specs.Rows.{places_of, up_to, fits_sample, fits_place, unfit}

module _ (l : Layout) (zs : List ℤ) where
  pub unfit-le : unfit l zs ≤ places_of l
  unfolding unfit
  unfit-le = fail-le (λ i. fits_place l i (get_or zs i (pos 0))) (places_of l)

  pub all_fit : unfit l zs ≡ places_of l → (i : ℕ) → i < places_of l → fits_place l i (get_or zs i (pos 0)) ≡ true
  unfolding unfit
  all_fit = fail-none (λ i. fits_place l i (get_or zs i (pos 0))) (places_of l)

  pub time-small : unfit l zs ≡ places_of l → nat_abs (get_or zs 0 (pos 0)) < 2 ^ 32
  unfolding fits_place up_to
  time-small e = go (get_or zs 0 (pos 0)) (all_fit e 0 (omega arith))
    where
      go : (z : ℤ) → (not (lt_z z (pos 0)) && not (lt_z (pos latest_time) z)) ≡ true → nat_abs z < 2 ^ 32
      go (pos v) q =
          let e = (and_split (not (lt_z (pos v) (pos 0))) (not (ltb latest_time v)) q).1 in
          omega (arith, ltb-false latest_time v (not-true (ltb latest_time v) e))
      go (negsuc v) q = absurd (false≢true q)

  pub sample-fits : unfit l zs ≡ places_of l → (i : ℕ) → i < l.analogs → is_none (get_or zs (1 + i) (pos 0)) ≡ false → holds l (get_or zs (1 + i) (pos 0)) ≡ true
  unfolding fits_place fits_sample
  sample-fits e i h t = rw (le-ltb (1 + i) 1 (omega arith), le-leb (1 + i) l.analogs (omega arith), t) at (all_fit e (1 + i) (omega arith))

  pub sample-small : unfit l zs ≡ places_of l → (i : ℕ) → i < l.analogs → is_none (get_or zs (1 + i) (pos 0)) ≡ false → mag (get_or zs (1 + i) (pos 0)) < 2 ^ 31
  sample-small e i h t =
      let z = get_or zs (1 + i) (pos 0) in
      omega (arith, size-mag (half_of l.kind) z (holds-size l z (sample-fits e i h t)), half_le l.kind)
