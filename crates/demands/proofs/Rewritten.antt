-- A CONFIGURATION WRITTEN AGAIN, as theorems on what the call says (crate `rewrite`); crate `exact_rewrite` proves all but the last.
--     rewritten-exactly      it is written exactly when the bytes are a configuration, its edition has the kind, the result is no longer than one may be, and there is room
--     lacking-written        in a kind that its edition lacks it is refused with 10, whatever the room
--     written-accepted       what is written is a configuration, and shows the same in all but the kind; so it is accepted
--     written-again          written again in the same kind it stays as it is, byte for byte
--     there_and_back         written in one kind and then in another, it is what is written in the other at once
--     never-long             it is longer than the configuration by at most 5 bytes, so that 1 is told of no configuration of less than 65,532 bytes
--     written-lines          its lines are those of the configuration, each as it is written (exact_rewrite/specs/Lines.antt), with its CR LF
--     recording-changed      configuration and data file of a recording, both written in a kind, are a recording of the same rows in that kind
-- Assumes nothing.
use mathlib.Core.Path.{◌≡◌, refl, sym, ◌∙◌}
use mathlib.Core.Bool.{true}
use mathlib.Core.List.{List}
use Prim.Native.Nat.{ℕ, ◌+◌, ◌≤◌, ◌<◌}
use native.Mathlib.Omega.{arith}
use lib.ListN.{length}
use Rattle.ground.specs.Said.{says}
use Rattle.ground.specs.Tables.{every}
use Rattle.words.specs.Words.{is_byte}
use Rattle.model.specs.declared.Kind.{Kind}
use Rattle.model.specs.declared.Row.{Row}
use Rattle.std.proofs.Common.{Ok}
use Rattle.model.specs.Editions.{has_kind}
use Rattle.model.specs.Layouts.{in_kind}
use Rattle.model.proofs.LayoutLaws.{sized-in}
use Rattle.config_rules.specs.declared.Config.{Config}
use Rattle.config_rules.specs.Shown.{with_kind}
use Rattle.config.specs.Config.{read_config}
use Rattle.data.specs.Files.{check_file, show_row, file_of}
use Rattle.change.specs.Change.{change_said}
use Rattle.rewrite.specs.Rewrite.{rewritten, rewrite_said}
use Rattle.paper.specs.Configuration.{Configuration}
use Rattle.paper.specs.Data.{DataFile}
use Rattle.paper.specs.Written.{AllInRange}
use Rattle.exact_config.proofs.ExactLaws.{sized-config}
use Rattle.exact_data.proofs.FileLaws.{data-exactly}
use Rattle.exact_data.proofs.ChangeLaws.{new-file, new-said, new-bytes}
pub use Rattle.exact_rewrite.proofs.ExactLaws.{rewritten-exactly, lacking-written, written-accepted, written-again, there_and_back, never-long, written-lines}

-- A recording: a configuration s that shows c, and a data file d of its layout, whose rows are r. Its edition has kind k, in which its samples are in range, and its configuration is not too long.
-- Then both calls say what they write wherever there is room, the new configuration is accepted and shows the same in kind k, and the new data file is accepted for its layout and shows the same rows
pub recording-changed : (s : List ℕ) (c : Config) (d : List ℕ) (r : ℕ → Row) (k : Kind)
    → Configuration s c → every is_byte d ≡ true → DataFile c.layout r d → has_kind c.layout.edition k ≡ true → AllInRange c.layout k r → length (rewritten c k s) ≤ 65536
    → (w : List ℕ) × (u : List ℕ)
    × ((room : ℕ) → length w ≤ room → rewrite_said s k room ≡ says w)
    × ((room : ℕ) → length u ≤ room → change_said c.layout d k room ≡ says u)
    × (read_config w ≡ Ok (with_kind k c))
    × (check_file (with_kind k c).layout u ≡ Ok tt)
    × ((i : ℕ) → i < c.layout.rows → show_row (with_kind k c).layout u (i + 1) ≡ show_row c.layout d (i + 1))
unfolding with_kind
recording-changed s c d r k t bytes f has all small =
    let l = c.layout in
    let allowed = sized-config s c t in
    let w = rewritten c k s in
    let u = file_of (in_kind k l) r in
    let said : (room : ℕ) → length w ≤ room → rewrite_said s k room ≡ says w = λ room h. (rewritten-exactly s k room w).1 (c, t, has, refl, small, h) in
    let old = (data-exactly l d bytes r).1 (allowed, f) in
    let new = (data-exactly (in_kind k l) u (new-bytes l r d allowed bytes f k all) r).1 ((sized-in k l allowed.0, has), new-file l r d allowed bytes f k all) in (
      w,
      u,
      said,
      λ room. new-said l r d allowed bytes f k all room has,
      (written-accepted s c t k (length w) w (said (length w) (omega arith))).1,
      new.0,
      λ i h. new.1 i h ∙ sym (old.1 i h),
    )
