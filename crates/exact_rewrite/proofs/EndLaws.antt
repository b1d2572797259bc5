-- The time multiplier's line and what follows it, written anew, by the edition.
--     end_text         what follows the time multiplier's bytes, as it is written, before the last CR LF
--     end_is          the time multiplier and what follows it are written as that, with CR LF at the end
--     end-written     it is what follows a time multiplier, and says the same
--     end_stays       lines that stay are what follows it
--     end_short       it is no longer than what follows it
-- Assumes nothing.
use mathlib.Core.Path.{◌≡◌, refl, sym, ap, ◌∙◌}
use mathlib.Core.Logic.{◌⊎◌}
use mathlib.Core.List.{List, [], ◌∷◌, ◌++◌, append_assoc}
use Prim.Native.Nat.{ℕ, ◌≤◌}
use native.Mathlib.Omega.{arith}
use lib.ListN.{length, length-append}
use Rattle.ground.specs.Quoted.{quoted}
use Rattle.ground.proofs.Cases.{clash}
use Rattle.model.specs.declared.Kind.{Kind}
use Rattle.model.specs.declared.Edition.{Edition}
use Rattle.model.specs.declared.Edition.TheVariants.{Y2013, Y1999}
use Rattle.std.proofs.Common.{Option}
use Rattle.config_rules.specs.declared.LastLines.{LastLines}
use Rattle.paper.specs.Lines.{Line, ended, MultiplierLine}
use Rattle.paper.specs.Configuration.{EndLines}
use Rattle.exact_config.proofs.ExactLaws.{multiplier-some, quality-some}
use Rattle.rewrite_lines.specs.declared.LineSort.{LineSort}
use Rattle.rewrite_lines.specs.declared.LineSort.TheVariants.{Kept, Numbers}
use Rattle.rewrite_lines.specs.Lines.{line_text}
use Rattle.rewrite_lines.proofs.LineLaws.{text-line-short}
use Rattle.rewrite_sorts.specs.Sorts.{end_sorts}
use Rattle.rewrite.specs.Rewrite.{lines_text}
use Rattle.exact_rewrite.proofs.LineLaws.{kept-written, codes-written}
use Rattle.exact_rewrite.proofs.LinesLaws.{part_then, next, last}

-- by a way to write a line anew
module _ (anew : LineSort → List ℕ → List ℕ) where
  abbrev pub end_text : (e : Edition) (v : Option LastLines) (t : List ℕ) → EndLines e v t → List ℕ
  end_text Y1999 v t w = []
  end_text Y2013 v t (e, l10, l11, shown, codes, quality, is) = quoted "\r\n" ++ (ended (anew Numbers l10) ++ anew Kept l11)

  pub end_is : (e : Edition) (v : Option LastLines) (l t end : List ℕ) (w : EndLines e v t) → Line MultiplierLine l → (end ≡ []) ⊎ (end ≡ quoted "\r\n")
      → lines_text anew (Numbers ∷ end_sorts e) (l ++ (t ++ end)) ≡ anew Numbers l ++ (end_text e v t w ++ quoted "\r\n")
  end_is Y1999 v l t end (shown, none) m ends =
      ap (λ (x : List ℕ). lines_text anew (Numbers ∷ []) (l ++ (x ++ end))) none ∙ last anew Numbers l end m (multiplier-some l m.is) ends
  end_is Y2013 v l t end (e, l10, l11, shown, codes, quality, is) m ends =
      let old : l ++ (t ++ end) ≡ ended l ++ (ended l10 ++ (l11 ++ end)) = rw is (simp append_assoc) in
      let a = anew Numbers l in
      let b = anew Numbers l10 in
      let new : ended a ++ (ended b ++ ended (anew Kept l11)) ≡ a ++ ((quoted "\r\n" ++ (ended b ++ anew Kept l11)) ++ quoted "\r\n") = simp append_assoc in
      ap (lines_text anew (Numbers ∷ Numbers ∷ Kept ∷ [])) old
      ∙ part_then (ended a) (next anew Numbers (Numbers ∷ Kept ∷ []) l (ended l10 ++ (l11 ++ end)) m)
      (part_then (ended b) (next anew Numbers (Kept ∷ []) l10 (l11 ++ end) codes)
      (last anew Kept l11 end quality (quality-some e.quality e.leap l11 quality.is) ends))
      ∙ new

pub end-written : (k : Kind) (e : Edition) (v : Option LastLines) (t : List ℕ) (w : EndLines e v t) → EndLines e v (end_text (line_text k) e v t w)
end-written k Y1999 v t (shown, none) = (shown, refl)
end-written k Y2013 v t (e, l10, l11, shown, codes, quality, is) = (
  e,
  line_text k Numbers l10,
  line_text k Kept l11,
  shown,
  codes-written k e.code e.local e.x l10 codes,
  kept-written k l11 quality,
  refl,
)

pub end_stays : (e : Edition) (v : Option LastLines) (t : List ℕ) (w : EndLines e v t) → end_text (λ sort l. l) e v t w ≡ t
end_stays Y1999 v t (shown, none) = sym none
end_stays Y2013 v t (e, l10, l11, shown, codes, quality, is) = sym is

pub end_short : (k : Kind) (e : Edition) (v : Option LastLines) (t : List ℕ) (w : EndLines e v t) → length (end_text (line_text k) e v t w) ≤ length t
end_short k Y1999 v t (shown, none) = omega arith
end_short k Y2013 v t (e, l10, l11, shown, codes, quality, is) =
    let bare = text-line-short k Numbers l10 (λ e. clash (cc)) in
    let kept = text-line-short k Kept l11 (λ e. clash (cc)) in
    rw is (simp length-append (omega (arith, bare, kept)))
