-- A configuration that is written again, on what the call says.
--     rewritten-exactly    it is written exactly when the bytes are a configuration whose edition has the kind, it is no longer than one may be, and there is room
--     lacking-written      a kind that the edition lacks is refused with 10, whatever the room
--     written-accepted     what is written is a configuration, and shows the same in all but the kind; so it is accepted
--     there_and_back       written in one kind and then in another, it is what is written in the other at once
--     written-again        written again in the same kind it stays as it is
--     never-long           it is longer than the configuration by at most 5 bytes, so that 1 is told of no configuration of less than 65,532 bytes
--     written-lines        its lines are those of the configuration, each as it is written, with its CR LF
-- Assumes nothing.
use mathlib.Core.Path.{◌≡◌, refl, sym, ap, ◌∙◌}
use mathlib.Core.Logic.{◌↔◌, ◌⊎◌}
use mathlib.Core.Bool.{Bool, true, false}
use mathlib.Core.List.{List, ◌++◌}
use Prim.Native.Nat.{ℕ, ◌+◌, ◌≤◌, ◌<◌}
use native.Mathlib.Omega.{arith}
use borrow.Author.Tests.{leb-true, le-leb, leb-false}
use lib.Dec.{leb}
use lib.ListN.{length, get_or}
use Rattle.ground.specs.Said.{says, refuses, ◌>>◌, must, answer_said}
use Rattle.ground.specs.Quoted.{quoted}
use Rattle.ground.specs.Tables.{cat}
use Rattle.ground.proofs.Cases.{on_test, clash}
use Rattle.ground.proofs.SaidLaws.{must-told, bind-told, said-answered}
use Rattle.model.specs.declared.Kind.{Kind}
use Rattle.model.specs.declared.Refusal.{Refusal}
use Rattle.std.proofs.Common.{Ok}
use Rattle.model.specs.Editions.{has_kind}
use Rattle.model.specs.Refusals.{refused, reason_number}
use Rattle.config_rules.specs.declared.Config.{Config}
use Rattle.config_rules.specs.Shown.{with_kind}
use Rattle.config.specs.Config.{read_config}
use Rattle.paper.specs.Lines.{ended}
use Rattle.paper.specs.Configuration.{Configuration}
use Rattle.exact_config.proofs.ExactLaws.{config-exactly, one-config}
use Rattle.rewrite_lines.specs.declared.LineSort.TheVariants.{Kept}
use Rattle.rewrite_lines.specs.Lines.{line_text}
use Rattle.rewrite_lines.proofs.LineLaws.{line-bytes, line-again}
use Rattle.rewrite_sorts.specs.Sorts.{sorts}
use Rattle.rewrite.specs.Rewrite.{rewritten, result_said, rewrite_said}
use Rattle.rewrite.proofs.LinesLaws.{lines-again}
use Rattle.exact_rewrite.specs.Lines.{LineWritten}
use Rattle.exact_rewrite.proofs.LineLaws.{line-written}
use Rattle.exact_rewrite.proofs.WholeLaws.{rewritten-configuration, rewritten-long, rewritten-lines}

-- a result that is said is no longer than a configuration may be, and than the room
result-to : (new w : List ℕ) (room : ℕ) → result_said new room ≡ says w → (w ≡ new) × (length w ≤ 65536) × (length w ≤ room)
unfolding result_said
result-to new w room e =
    let small = must-told (leb (length new) 65536) (refused 1 0 0) (must (leb (length new) room) (refused 17 0 0) >> says new) w e in
    let fits = must-told (leb (length new) room) (refused 17 0 0) (says new) w small.1 in
    let q : w ≡ new = cc fits.1 in
    (q, rw q (leb-true (length new) 65536 small.0), rw q (leb-true (length new) room fits.0))

result-from : (new : List ℕ) (room : ℕ) → length new ≤ 65536 → length new ≤ room → result_said new room ≡ says new
unfolding result_said
result-from new room h g = rw (le-leb (length new) 65536 h, le-leb (length new) room g)

-- and a refusal with 1 tells that it is longer than a configuration may be
result-one : (new : List ℕ) (room : ℕ) → result_said new room ≡ refuses (refused 1 0 0) → 65536 < length new
unfolding result_said
result-one new room e =
    on_test (leb (length new) 65536)
    (λ small. absurd (no_one (leb (length new) room) (rw small at e)))
    (λ large. leb-false (length new) 65536 large)
  where
    no_one : (t : Bool) → (must t (refused 17 0 0) >> says new) ≡ refuses (refused 1 0 0) → ⊥
    no_one true e = clash (cc)
    no_one false e = let q : refused 17 0 0 ≡ refused 1 0 0 = cc e in let n : ◌≡◌ {A = ℕ} 17 1 = ap (λ (r : Refusal). reason_number r.reason) q in omega arith

one_told : (has : Bool) (new : List ℕ) (room : ℕ) → (must has (refused 10 0 0) >> result_said new room) ≡ refuses (refused 1 0 0) → 65536 < length new
one_told true new room e = result-one new room e
one_told false new room e = let q : refused 10 0 0 ≡ refused 1 0 0 = cc e in let n : ◌≡◌ {A = ℕ} 10 1 = ap (λ (r : Refusal). reason_number r.reason) q in omega arith

written-to : (s : List ℕ) (k : Kind) (room : ℕ) (w : List ℕ) → rewrite_said s k room ≡ says w
    → (c : Config) × Configuration s c × (has_kind c.layout.edition k ≡ true) × (w ≡ rewritten c k s) × (length w ≤ 65536) × (length w ≤ room)
unfolding rewrite_said
written-to s k room w e =
    let b = bind-told (answer_said (read_config s)) (λ c. must (has_kind c.layout.edition k) (refused 10 0 0) >> result_said (rewritten c k s) room) w e in
    let c = b.0 in
    let (has, said) = must-told (has_kind c.layout.edition k) (refused 10 0 0) (result_said (rewritten c k s) room) w b.2 in
    let (q, h, g) = result-to (rewritten c k s) w room said in
    (c, (config-exactly s c).0 (said-answered (read_config s) c b.1), has, q, h, g)

written_from : (s : List ℕ) (k : Kind) (room : ℕ) (w : List ℕ)
    → (c : Config) × Configuration s c × (has_kind c.layout.edition k ≡ true) × (w ≡ rewritten c k s) × (length w ≤ 65536) × (length w ≤ room)
    → rewrite_said s k room ≡ says w
unfolding rewrite_said
written_from s k room w (c, t, has, q, h, g) = rw ((config-exactly s c).1 t, has, q) (result-from (rewritten c k s) room (rw q at h) (rw q at g))

pub rewritten-exactly : (s : List ℕ) (k : Kind) (room : ℕ) (w : List ℕ)
    → rewrite_said s k room ≡ says w
    ↔ ((c : Config) × Configuration s c × (has_kind c.layout.edition k ≡ true) × (w ≡ rewritten c k s) × (length w ≤ 65536) × (length w ≤ room))
rewritten-exactly s k room w = (written-to s k room w, written_from s k room w)

pub lacking-written : (s : List ℕ) (k : Kind) (room : ℕ) (c : Config) → read_config s ≡ Ok c → has_kind c.layout.edition k ≡ false
    → rewrite_said s k room ≡ refuses (refused 10 0 0)
unfolding rewrite_said
lacking-written s k room c taken lacks = rw (taken, lacks)

-- what is written of the configuration s, which shows c
module _ (s : List ℕ) (c : Config) (t : Configuration s c) (k : Kind) where
  written_is : (room : ℕ) (w : List ℕ) → rewrite_said s k room ≡ says w → (has_kind c.layout.edition k ≡ true) × (w ≡ rewritten c k s) × (length w ≤ 65536)
  written_is room w e =
      let (d, u, has, q, h, g) = written-to s k room w e in
      let same : c ≡ d = one-config s c d t u in
      (rw same has, rw same q, h)

  pub written-accepted : (room : ℕ) (w : List ℕ) → rewrite_said s k room ≡ says w
      → Configuration w (with_kind k c) × (read_config w ≡ Ok (with_kind k c))
  written-accepted room w e =
      let (has, q, h) = written_is room w e in
      let u : Configuration w (with_kind k c) = rw q (rewritten-configuration s c t k has (rw q at h)) in
      (u, (config-exactly w (with_kind k c)).1 u)

  pub never-long : (length (rewritten c k s) ≤ length s + 5) × ((room : ℕ) → rewrite_said s k room ≡ refuses (refused 1 0 0) → 65532 ≤ length s)
  unfolding rewrite_said
  never-long =
      let long = rewritten-long s c t k in
      (long, λ room e. omega (arith, long, one_told (has_kind c.layout.edition k) (rewritten c k s) room (rw ((config-exactly s c).1 t) at e)))

  -- s is the lines x 0, x 1, .., the last with its CR LF or without, and w the lines y 0, y 1, .., each with it; each line is written by its sort
  pub written-lines : (room : ℕ) (w : List ℕ) → rewrite_said s k room ≡ says w
      → let m = length (sorts c) in
      (x : ℕ → List ℕ) × (y : ℕ → List ℕ)
      × ((s ++ quoted "\r\n" ≡ cat (λ i. ended (x i)) m) ⊎ (s ≡ cat (λ i. ended (x i)) m))
      × (w ≡ cat (λ i. ended (y i)) m)
      × ((i : ℕ) → LineWritten k (get_or (sorts c) i Kept) (x i) (y i))
  written-lines room w e =
      let (x, old, new) = rewritten-lines s c t k in
      (x, λ i. line_text k (get_or (sorts c) i Kept) (x i), old, (written_is room w e).1 ∙ new, λ i. line-written k (get_or (sorts c) i Kept) (x i))

-- lines that were written in one kind, written in another
rewritten-over : (c : Config) (j k : Kind) (s : List ℕ) → rewritten c k (rewritten c j s) ≡ rewritten c k s
unfolding rewritten
rewritten-over c j k s = lines-again (line_text k) (line_text j) (λ sort x ok. (line-bytes j sort x ok, line-again j k sort x)) (sorts c) s

-- the kind that a configuration shows has no say in how it is written, nor in its edition
kind-over : (c : Config) (j k : Kind) (s : List ℕ) → rewritten (with_kind j c) k s ≡ rewritten c k s
unfolding rewritten sorts with_kind
kind-over c j k s = refl

edition-over : (c : Config) (j k : Kind) → has_kind c.layout.edition k ≡ true → has_kind (with_kind j c).layout.edition k ≡ true
unfolding with_kind
edition-over c j k has = has

pub there_and_back : (s : List ℕ) (j k : Kind) (room room' : ℕ) (u w : List ℕ) → rewrite_said s j room ≡ says u → rewrite_said s k room' ≡ says w
    → (more : ℕ) → length w ≤ more → rewrite_said u k more ≡ says w
there_and_back s j k room room' u w e f more g =
    let (c, t, own, q, h, n) = written-to s j room u e in
    let (has, p, l) = written_is s c t k room' w f in
    let v = (written-accepted s c t j room u e).0 in
    written_from u k more w (with_kind j c, v, edition-over c j k has, p ∙ sym (rewritten-over c j k s) ∙ ap (rewritten c k) (sym q) ∙ sym (kind-over c j k u), l, g)

pub written-again : (s : List ℕ) (k : Kind) (room : ℕ) (w : List ℕ) → rewrite_said s k room ≡ says w → (more : ℕ) → length w ≤ more → rewrite_said w k more ≡ says w
written-again s k room w e = there_and_back s k k room room w w e e
