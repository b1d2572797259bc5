-- Laws of a text that is put piece after piece, of which it is known what is left to be put.
--     SoFar           what was put, with what is left, is the whole
--     so-far-start     nothing was put yet
--     so-far-room      there is room for the next piece, where there is room for the whole
--     so-far-next      one piece more
--     so-far-end       nothing is left
-- Assumes nothing.
use mathlib.Core.Path.{◌≡◌, refl, sym, ap, ◌∙◌}
use mathlib.Core.List.{List, [], ◌++◌, append_assoc, append-nil}
use Prim.Native.Nat.{ℕ, ◌+◌, ◌≤◌}
use native.Mathlib.Omega.{arith}
use lib.ListN.{length, length-append}
use Rattle.pieces.specs.Inner.{Put}
use Rattle.pieces.proofs.Laws.{put-none, put_then, put_as}

-- what was put up to `to`, with what is left, is the whole
pub record SoFar (old new : List ℕ) (to : ℕ) (left whole : List ℕ) : Type 0 where
  pub text : List ℕ
  pub put : Put old 0 text new to
  pub all : text ++ left ≡ whole

pub so-far-start : (old whole : List ℕ) → SoFar old old 0 whole whole
so-far-start old whole = record { text = []; put = put-none old 0; all = refl }

module _ {old new whole : List ℕ} {to : ℕ} (piece left : List ℕ) (w : SoFar old new to (piece ++ left) whole) where
  pub so-far-room : to + length piece ≤ length whole
  so-far-room =
      let e : length w.text + (length piece + length left) ≡ length whole = rw (← length-append piece left, ← length-append w.text (piece ++ left)) (ap length w.all) in
      omega (arith, e, w.put.end)

  pub so-far-next : {next : List ℕ} {r : ℕ} → Put new to piece next r → SoFar old next r left whole
  so-far-next p = record { text = w.text ++ piece; put = put_then w.put p; all = append_assoc w.text piece left ∙ w.all }

pub so-far-end : {old new whole : List ℕ} {to : ℕ} → SoFar old new to [] whole → Put old 0 whole new to
so-far-end w = put_as w.put (sym (append-nil w.text) ∙ w.all)
