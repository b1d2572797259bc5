-- `text::pass_eights` meets its contract. The loop's invariant: the scan of s comes to what the scan of what is left at 8 * n does.
use mathlib.Core.Path.{◌≡◌, refl, sym, ◌∙◌}
use Prim.Native.Nat.{◌+◌, ◌*◌}
use native.Mathlib.Omega.{arith}
use Rattle.ground.proofs.Every.{and_split}
use Rattle.text.specs.Lines.{scan_line}
use Rattle.text.proofs.LineLaws.{part-passed}
use Rattle.text.proofs.pass_eights.Goals as goal

pub loop-n-init : goal.loop-n-init
unfolding scan_line
loop-n-init c = refl

pub loop-n-preserved : goal.loop-n-preserved
loop-n-preserved c =
    let short = c.shorter-stop.ensures in
    let s = c.args.s.now in
    let most = c.args.most in
    let i = 8 * c.loop-n.n in
    let q : i + 4 + 4 ≡ 8 * (c.loop-n.n + 1) = omega arith in
    let b = and_split _ _ c.if-not-p-q.false in
    let h = part-passed most s i (i + 4) (sym c.four_fine-p.ensures ∙ b.0) (omega arith) (omega (arith, short)) (omega (arith, short)) in
    let k = part-passed most s (i + 4) (i + 4 + 4) (sym c.four_fine-q.ensures ∙ b.1) (omega arith) (omega (arith, short)) (omega (arith, short)) in
    c.loop-n.invariant ∙ h ∙ rw q at k
