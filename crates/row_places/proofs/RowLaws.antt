-- Laws of a row's places.
--     part_at            a place of a part
--     filled-part        a part, and then the same up to n places, is filled from the places that it is a part of
--     row-places         how many places a row has
--     shown-back         a sample of 32 bits is read back from the place that shows it
--     shown-none         and is shown as "there is none" exactly when it is missing
--     sample-at          where a sample stands among the places of a row
--     other_at           no place but that of a sample says that there is none
--     row_back           the row that the places of a row say is the row
--     places-back        places that fit are the places of the row that they say
-- Assumes nothing.
use mathlib.Core.Path.{◌≡◌, refl, sym, ◌∙◌, ap}
use mathlib.Core.Logic.{◌↔◌, ◌⊎◌, inl, inr, ⊎_elim}
use mathlib.Core.Bool.{Bool, true, false, not, ◌&&◌, false≢true}
use mathlib.Core.List.{List, ◌∷◌, ◌++◌}
use Prim.Native.Nat.{ℕ, zero, suc, ◌+◌, ◌-◌, ◌^◌, ◌<◌, ◌≤◌}
use native.Mathlib.Omega.{arith}
use borrow.Author.Tests.{ltb-false, le-ltb, lt-leb, not-true}
use lib.Dec.{ltb}
use lib.IntN.{ℤ, pos, negsuc, nat_abs}
use lib.ListN.{length, get_or, take, drop, replicate, length-append, get_or-append, get_or-eq_default}
use lib.Seq.{get_or-take, get_or-drop, get_or-append-add}
use lib.Signed.{mag, lt_z}
use Rattle.ground.specs.Tables.{part, tab, padded}
use Rattle.ground.proofs.Cases.{on_test, lt-or-ge, clash}
use Rattle.ground.proofs.Every.{and_split}
use Rattle.ground.proofs.Parts.{length_part}
use Rattle.ground.proofs.Tables.{tab-ext, length-tab, get_or-tab, tab-take}
use Rattle.ground.proofs.Filled.{tab-front, tab-split, get_or-padded}
use Rattle.model.specs.declared.Layout.{Layout}
use Rattle.model.specs.declared.Row.{Row}
use Rattle.model.specs.Samples.{is_missing, none, is_none, sample_of}
use Rattle.model.specs.Rows.{latest_time, trimmed}
use Rattle.model.proofs.SampleLaws.{missing-is, is-missing, none_is, is-none, small-none, holds-there}
use Rattle.row_places.specs.Rows.{places_of, bool_place, sample_place, place_sample, row_places, up_to, fits_place, unfit, row_of_places}
use Rattle.row_places.proofs.UnfitLaws.{all_fit, sample-fits}

pub part_at : {A : Type 0} (f t i : ℕ) (l : List A) (z : A) → i < t - f → get_or (part f t l) i z ≡ get_or l (f + i) z
part_at f t i l z h = get_or-take (t - f) (drop f l) i z h ∙ get_or-drop f l i z

pub filled-part : {A B : Type 0} (h : A → B) (f a n : ℕ) (l : List A) (z : A) (y : B) → f + a ≤ length l
    → padded (λ i. h (get_or (part f (f + a) l) i z)) (length (part f (f + a) l)) n y ≡ padded (λ i. h (get_or l (f + i) z)) a n y
filled-part h f a n l z y e =
    let m : length (part f (f + a) l) ≡ a = length_part f (f + a) l e ∙ omega arith in
    rw m
    (ap (λ xs. xs ++ replicate (n - a) y)
    (tab-ext (λ i. h (get_or (part f (f + a) l) i z)) (λ i. h (get_or l (f + i) z)) a (λ i q. ap h (part_at f (f + a) i l z (omega arith)))))

pub shown-back : (z : ℤ) → mag z < 2 ^ 31 → place_sample (sample_place z) ≡ z
unfolding place_sample sample_place sample_of
shown-back z f =
    on_test (is_missing z)
    (λ t. rw (t, none_is, is-missing z t))
    (λ t. rw (t, small-none z f))

pub shown-none : (z : ℤ) → mag z < 2 ^ 31 → sample_place z ≡ none ↔ is_missing z ≡ true
unfolding sample_place sample_of
shown-none z f = (
  λ e.
      on_test (is_missing z)
      (λ t. t)
      (λ t.
      let q : z ≡ none = rw t at e in
      let n : is_none none ≡ false = rw q at (small-none z f) in
      absurd (false≢true (sym n ∙ none_is))),
  λ t. rw t,
)

module _ (l : Layout) (r : Row) where
  abbrev samples : ℕ → ℤ
  samples i = sample_place (get_or r.samples i (pos 0))

  abbrev statuses : ℕ → ℤ
  statuses i = bool_place (get_or r.statuses i false)

  pub row-places : length (row_places l r) ≡ places_of l
  unfolding row_places
  row-places =
      omega (arith, length-append (tab samples l.analogs) (tab statuses l.statuses), length-tab samples l.analogs, length-tab statuses l.statuses)

  pub sample-at : (i : ℕ) → i < l.analogs → get_or (row_places l r) (1 + i) (pos 0) ≡ sample_place (get_or r.samples i (pos 0))
  unfolding row_places
  sample-at i h =
      let e : 1 + i ≡ suc i = omega arith in
      rw e
      (get_or-append (tab samples l.analogs) (tab statuses l.statuses) (pos 0) i (rw length-tab h)
      ∙ get_or-tab samples l.analogs i (pos 0) h)

  status-at : (i : ℕ) → i < l.statuses → get_or (row_places l r) (1 + l.analogs + i) (pos 0) ≡ bool_place (get_or r.statuses i false)
  unfolding row_places
  status-at i h =
      let a = l.analogs in
      let e : 1 + a + i ≡ suc (length (tab samples a) + i) = rw length-tab (omega arith) in
      rw e (get_or-append-add (tab samples a) (tab statuses l.statuses) i (pos 0) ∙ get_or-tab statuses l.statuses i (pos 0) h)

  -- a status is not below zero
  status-pos : (i : ℕ) → get_or (tab statuses l.statuses) i (pos 0) ≡ none → ⊥
  status-pos i e =
      ⊎_elim
      (λ (h : i < l.statuses). go (get_or r.statuses i false) (sym (get_or-tab statuses l.statuses i (pos 0) h) ∙ e))
      (λ (h : l.statuses ≤ i). let q : pos 0 ≡ none = sym (get_or-eq_default (tab statuses l.statuses) (pos 0) {n = i} (rw length-tab h)) ∙ e in clash (cc))
      (lt-or-ge i l.statuses)
    where
      go : (on : Bool) → bool_place on ≡ none → ⊥
      go true q = clash (cc)
      go false q = clash (cc)

  pub other_at : (j : ℕ) → (j < 1) ⊎ (1 + l.analogs ≤ j) → get_or (row_places l r) j (pos 0) ≡ none → ⊥
  unfolding row_places
  other_at zero h e = clash (cc)
  other_at (suc j) (inl h) e = absurd (omega arith)
  other_at (suc j) (inr h) e =
      let a = l.analogs in
      let q : j ≡ length (tab samples a) + (j - a) = rw length-tab (omega arith) in
      status-pos (j - a) (sym (get_or-append-add (tab samples a) (tab statuses l.statuses) (j - a) (pos 0)) ∙ ap (λ (i : ℕ). get_or (tab samples a ++ tab statuses l.statuses) i (pos 0)) (sym q) ∙ e)

  on-back : (on : Bool) → lt_z (pos 0) (bool_place on) ≡ on
  on-back true = refl
  on-back false = refl

  time-back : nat_abs (get_or (row_places l r) 0 (pos 0)) ≡ r.time
  unfolding row_places
  time-back = refl

  pub row_back : ((i : ℕ) → i < l.analogs → mag (get_or r.samples i (pos 0)) < 2 ^ 31) → row_of_places l (row_places l r) ≡ trimmed l r
  unfolding row_of_places trimmed
  row_back small =
      let z =
      tab-ext (λ i. place_sample (get_or (row_places l r) (1 + i) (pos 0))) (λ i. get_or r.samples i (pos 0)) l.analogs
      (λ i h. ap place_sample (sample-at i h) ∙ shown-back (get_or r.samples i (pos 0)) (small i h)) in
      let s =
      tab-ext (λ i. lt_z (pos 0) (get_or (row_places l r) (1 + l.analogs + i) (pos 0))) (λ i. get_or r.statuses i false) l.statuses
      (λ i h. ap (lt_z (pos 0)) (status-at i h) ∙ on-back (get_or r.statuses i false)) in
      rw (time-back, z, s)

-- places that fit
module _ (l : Layout) (zs : List ℤ) (fit : unfit l zs ≡ places_of l) where
  abbrev place : ℕ → ℤ
  place i = get_or zs i (pos 0)

  -- a time is no less than zero
  time-told : pos (row_of_places l zs).time ≡ place 0
  unfolding row_of_places fits_place up_to
  time-told = go (place 0) (all_fit l zs fit 0 (omega arith))
    where
      go : (z : ℤ) → (not (lt_z z (pos 0)) && not (lt_z (pos latest_time) z)) ≡ true → pos (nat_abs z) ≡ z
      go (pos v) q = refl
      go (negsuc v) q = absurd (false≢true q)

  -- a sample that fits is missing or a number
  taken_back : (z : ℤ) → (is_none z ≡ false → is_missing z ≡ false) → sample_place (place_sample z) ≡ z
  unfolding place_sample sample_place sample_of
  taken_back z f =
      on_test (is_none z)
      (λ t. rw (t, missing-is, is-none z t))
      (λ t. rw (t, f t))

  sample-told : (i : ℕ) → i < l.analogs → sample_place (get_or (row_of_places l zs).samples i (pos 0)) ≡ place (1 + i)
  unfolding row_of_places
  sample-told i h =
      ap sample_place (get_or-padded (λ j. place_sample (place (1 + j))) l.analogs 96 i (pos 0) (pos 0) h)
      ∙ taken_back (place (1 + i)) (λ t. holds-there l (place (1 + i)) (sample-fits l zs fit i h t))

  -- a status is 0 or 1
  on-place : (z : ℤ) → up_to (pos 1) z ≡ true → bool_place (lt_z (pos 0) z) ≡ z
  unfolding up_to
  on-place (pos zero) q = refl
  on-place (pos (suc zero)) q = refl
  on-place (pos (suc (suc v))) q =
      let n = suc (suc v) in
      let e = (and_split (not (ltb n 0)) (not (ltb 1 n)) q).1 in
      absurd (omega (arith, ltb-false 1 n (not-true (ltb 1 n) e)))
  on-place (negsuc v) q = absurd (false≢true q)

  status-told : (i : ℕ) → i < l.statuses → bool_place (get_or (row_of_places l zs).statuses i false) ≡ place (1 + l.analogs + i)
  unfolding row_of_places fits_place
  status-told i h =
      let n = 1 + l.analogs + i in
      let q : up_to (pos 1) (place n) ≡ true = rw (le-ltb n 1 (omega arith), lt-leb n l.analogs (omega arith)) at (all_fit l zs fit n (omega arith)) in
      ap bool_place (get_or-padded (λ j. lt_z (pos 0) (place (1 + l.analogs + j))) l.statuses 256 i false false h) ∙ on-place (place n) q

  pub places-back : places_of l ≤ length zs → row_places l (row_of_places l zs) ≡ take (places_of l) zs
  unfolding row_places
  places-back enough =
      let a = l.analogs in
      let d = l.statuses in
      let z =
      tab-ext (λ i. sample_place (get_or (row_of_places l zs).samples i (pos 0))) (λ i. place (suc i)) a
      (λ i h. let e : 1 + i ≡ suc i = omega arith in sample-told i h ∙ ap place e) in
      let s =
      tab-ext (λ i. bool_place (get_or (row_of_places l zs).statuses i false)) (λ i. place (suc (a + i))) d
      (λ i h. let e : 1 + a + i ≡ suc (a + i) = omega arith in status-told i h ∙ ap place e) in
      let e : 1 + a + d ≡ suc (a + d) = omega arith in
      let t : tab place (suc (a + d)) ≡ place 0 ∷ (tab (λ i. place (suc i)) a ++ tab (λ i. place (suc (a + i))) d)
      = tab-front place (a + d) ∙ ap (λ xs. place 0 ∷ xs) (tab-split (λ i. place (suc i)) a d) in
      rw (time-told, z, s) (sym t ∙ ap (tab place) (sym e) ∙ tab-take zs (pos 0) (1 + a + d) enough)
