-- Demand 2 on the exported calls: what zl_config, zl_check and zl_row show is what the bytes are (crate `paper`), as places.
--     config-shown     zl_config shows places exactly when the bytes are a configuration, there is room, and these are its places
--     file-taken       zl_check says yes exactly when its numbers are those of a layout that is allowed and the bytes are a data file of some rows
--     none-exactly     a place that zl_row shows is the number for "there is none" exactly where it is that of a missing sample
--     place-shown      zl_row shows places exactly when the bytes are the data file of rows, there is such a row and room, and these are its places
-- Assumes nothing.
use mathlib.Core.Path.{◌≡◌, refl, ap, ◌∙◌}
use mathlib.Core.Logic.{◌↔◌, ◌⊎◌}
use mathlib.Core.Bool.{true}
use mathlib.Core.List.{List}
use Prim.Native.Nat.{ℕ, ◌+◌, ◌-◌, ◌^◌, ◌≤◌, ◌<◌}
use native.Mathlib.Omega.{arith}
use borrow.Author.Tests.{leb-true, le-leb}
use lib.Dec.{leb}
use lib.IntN.{ℤ, pos}
use lib.ListN.{get_or}
use lib.Signed.{mag}
use Rattle.ground.specs.Said.{says, ◌>>◌, answer_said}
use Rattle.ground.specs.Tables.{every}
use Rattle.ground.proofs.Cases.{on_test, clash}
use Rattle.ground.proofs.SaidLaws.{must-told, bind-told, said-answered}
use Rattle.words.specs.Words.{is_byte}
use Rattle.model.specs.declared.Layout.{Layout}
use Rattle.model.specs.declared.Row.{Row}
use Rattle.std.proofs.Common.{None, Ok, Option, Some}
use Rattle.model.specs.Refusals.{refused}
use Rattle.model.specs.Samples.{is_missing, none, sample_of}
use Rattle.model.specs.Rows.{sample_at}
use Rattle.model.proofs.SampleLaws.{fits-small}
use Rattle.config_rules.specs.declared.Config.{Config}
use Rattle.config.specs.Config.{read_config}
use Rattle.data.specs.Files.{row_at, check_file, show_row}
use Rattle.row_places.specs.Rows.{places_of, row_places}
use Rattle.row_places.proofs.RowLaws.{shown-none, sample-at, other_at}
use Rattle.config_places.specs.Configs.{config_places}
use Rattle.answers.specs.Answers.{layout_of, known, placed}
use Rattle.calls_config.specs.Calls.{config_call}
use Rattle.calls_data.specs.Calls.{check_call, row_call}
use Rattle.calls_data.specs.Inner.{row_in}
use Rattle.model.proofs.AnswerLaws.{yes-said}
use Rattle.paper.specs.Configuration.{Configuration}
use Rattle.paper.specs.Data.{row_sample, Allowed, DataFile}
use Rattle.exact_config.proofs.ExactLaws.{config-exactly}
use Rattle.exact_data.proofs.NumberLaws.{fits-exactly}
use Rattle.exact_data.proofs.FileLaws.{data-exactly, row-shown, accepted-rows}
use Rattle.exact_data.proofs.ChangeLaws.{own_range}
use Rattle.demands.proofs.Missing.{sample-shown}

layout-known : (n : Option Layout) (l : Layout) → known n ≡ says l → n ≡ Some l
layout-known (Some m) l e = cc
layout-known None l e = clash (cc)

-- places that are shown
room-said : (count : ℕ) (zs ys : List ℤ) (room : ℕ) → placed count zs room ≡ says ys → (count ≤ room) × (ys ≡ zs)
room-said count zs ys room e = let t = must-told (leb count room) (refused 17 0 0) (says zs) ys e in (leb-true count room t.0, cc t.1)

config-shown-to : (s : List ℕ) (room : ℕ) (zs : List ℤ) → config_call s room ≡ says zs → (c : Config) × Configuration s c × (35 ≤ room) × (zs ≡ config_places c)
unfolding config_call
config-shown-to s room zs e =
    let b = bind-told (answer_said (read_config s)) (λ c. placed 35 (config_places c) room) zs e in
    let w = room-said 35 (config_places b.0) zs room b.2 in
    (b.0, (config-exactly s b.0).0 (said-answered (read_config s) b.0 b.1), w.0, w.1)

config-shown-from : (s : List ℕ) (room : ℕ) (zs : List ℤ) → (c : Config) × Configuration s c × (35 ≤ room) × (zs ≡ config_places c) → config_call s room ≡ says zs
unfolding config_call
config-shown-from s room zs (c, w, h, q) = rw ((config-exactly s c).1 w, le-leb 35 room h, q)

-- DEMAND 2. zl_config
pub config-shown : (s : List ℕ) (room : ℕ) (zs : List ℤ) → config_call s room ≡ says zs ↔ ((c : Config) × Configuration s c × (35 ≤ room) × (zs ≡ config_places c))
config-shown s room zs = (config-shown-to s room zs, config-shown-from s room zs)

-- a data file, handed in as bytes, with the numbers of its layout
module _ (a d rows kind edition : ℕ) (s : List ℕ) (bytes : every is_byte s ≡ true) where
  -- the numbers are those of the layout l, which is allowed, and the bytes are the data file of rows r in it
  abbrev pub FileHere : Layout → (ℕ → Row) → Type 0
  FileHere l r = (layout_of a d rows kind edition ≡ Some l) × Allowed l × DataFile l r s

  file-to : check_call a d rows kind edition s ≡ says 0 → (l : Layout) × (r : ℕ → Row) × FileHere l r
  unfolding check_call
  file-to e =
      let b = bind-told (known (layout_of a d rows kind edition)) (λ l. answer_said (check_file l s) >> says 0) 0 e in
      let l = b.0 in
      let c = (yes-said (check_file l s) 0 0 b.2).0 in
      let t = accepted-rows l s bytes c in
      (l, row_at l s, (layout-known (layout_of a d rows kind edition) l b.1, t.0, t.1))

  file-from : (l : Layout) × (r : ℕ → Row) × FileHere l r → check_call a d rows kind edition s ≡ says 0
  unfolding check_call
  file-from (l, r, (e, z, t)) = rw (e, ((data-exactly l s bytes r).1 (z, t)).0)

  -- DEMAND 2. zl_check
  pub file-taken : check_call a d rows kind edition s ≡ says 0 ↔ ((l : Layout) × (r : ℕ → Row) × FileHere l r)
  file-taken = (file-to, file-from)

  -- places zs are those of row n of such a file, and there is room for them
  abbrev pub RowHere : ℕ → ℕ → List ℤ → Type 0
  RowHere n room zs = (l : Layout) × (r : ℕ → Row) × FileHere l r × (1 ≤ n) × (n ≤ l.rows) × (places_of l ≤ room) × (zs ≡ row_places l (r (n - 1)))

  place-to : (n room : ℕ) (zs : List ℤ) → row_call a d rows kind edition s n room ≡ says zs → RowHere n room zs
  unfolding row_call row_in
  place-to n room zs e =
      let b = bind-told (known (layout_of a d rows kind edition)) (λ l. row_in l s n room) zs e in
      let l = b.0 in
      let c = bind-told (answer_said (show_row l s n)) (λ r. placed (places_of l) (row_places l r) room) zs b.2 in
      let w = room-said (places_of l) (row_places l c.0) zs room c.2 in
      let (r, z, t, h, k, q) = (row-shown l s bytes n c.0).0 (said-answered (show_row l s n) c.0 c.1) in
      (l, r, (layout-known (layout_of a d rows kind edition) l b.1, z, t), h, k, w.0, w.1 ∙ ap (row_places l) q)

  place-from : (n room : ℕ) (zs : List ℤ) → RowHere n room zs → row_call a d rows kind edition s n room ≡ says zs
  unfolding row_call row_in
  place-from n room zs (l, r, (e, z, t), h, m, w, q) =
      rw (e, (row-shown l s bytes n (r (n - 1))).1 (r, z, t, h, m, refl), le-leb (places_of l) room w, q)

  -- DEMAND 2. zl_row
  pub place-shown : (n room : ℕ) (zs : List ℤ) → row_call a d rows kind edition s n room ≡ says zs ↔ RowHere n room zs
  place-shown n room zs = (place-to n room zs, place-from n room zs)

  -- the places of an accepted row: those of samples, and the others
  module _ (l : Layout) (r : ℕ → Row) (f : FileHere l r) (n : ℕ) (there : (1 ≤ n) × (n ≤ l.rows)) where
    sample-small : (j : ℕ) → j < l.analogs → mag (get_or (r (n - 1)).samples j (pos 0)) < 2 ^ 31
    sample-small j h =
        let z = get_or (r (n - 1)).samples j (pos 0) in
        fits-small l z ((fits-exactly l z).1 (own_range l r s f.1 bytes f.2 (n - 1) j (omega (arith, there.0, there.1)) h))

    sample-none : (j : ℕ) → j < l.analogs → get_or (row_places l (r (n - 1))) (1 + j) (pos 0) ≡ none ↔ row_sample (r (n - 1)) j ≡ None
    unfolding sample_of
    sample-none j h =
        let z = get_or (r (n - 1)).samples j (pos 0) in
        let w = shown-none z (sample-small j h) in
        rw (sample-at l (r (n - 1)) j h) (
          (λ e. rw (w.0 e)),
          (λ e. on_test (is_missing z) w.1 (λ t. let q : Some z ≡ None = rw t at e in clash (cc))),
        )

    -- the places of the row, by another name
    none_told : (zs : List ℤ) → zs ≡ row_places l (r (n - 1)) → (j : ℕ) → 1 ≤ j → j ≤ l.analogs → get_or zs j (pos 0) ≡ none ↔ sample_at j (r (n - 1)) ≡ Ok None
    none_told zs q j x y =
        let p : 1 + (j - 1) ≡ j = omega arith in
        let w = rw p at (sample-none (j - 1) (omega arith)) in
        rw (q, sample-shown (r (n - 1)) j x (omega (arith, f.1.0.analogs))) (
          (λ e. rw (w.0 e)),
          (λ e. let v : row_sample (r (n - 1)) (j - 1) ≡ None = cc in w.1 v),
        )

    other-told : (zs : List ℤ) → zs ≡ row_places l (r (n - 1)) → (j : ℕ) → (j < 1) ⊎ (1 + l.analogs ≤ j) → get_or zs j (pos 0) ≡ none → ⊥
    other-told zs q j x = rw q (other_at l (r (n - 1)) j x)

  -- DEMAND 2. A place that zl_row shows is the number for "there is none" exactly where it is that of a sample, and the row says that it is missing
  pub none-exactly : (n room : ℕ) (zs : List ℤ) → row_call a d rows kind edition s n room ≡ says zs
      → (l : Layout) × (r : Row) × (layout_of a d rows kind edition ≡ Some l) × (show_row l s n ≡ Ok r)
      × ((j : ℕ) → 1 ≤ j → j ≤ l.analogs → get_or zs j (pos 0) ≡ none ↔ sample_at j r ≡ Ok None)
      × ((j : ℕ) → (j < 1) ⊎ (1 + l.analogs ≤ j) → get_or zs j (pos 0) ≡ none → ⊥)
  none-exactly n room zs e =
      let (l, r, f, h, m, w, q) = place-to n room zs e in
      let row = r (n - 1) in
      (l, row, f.0, (row-shown l s bytes n row).1 (r, f.1, f.2, h, m, refl), none_told l r f n (h, m) zs q, other-told l r f n (h, m) zs q)
