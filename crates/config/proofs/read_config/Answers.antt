-- `read_config` meets its contract. The loop's invariant: what the paper reads in the file is what it reads from here on, by the rule of the next line, with what is told so far.
use Rattle.std.proofs.Common.{Ok, Result, ◌≡◌, ◌+◌, ◌-◌, ◌^◌, ◌≤◌, ◌<◌, ℕ, true, false, List, Err, length, drop, sym, ap, arith}
use mathlib.Core.Path.{◌∙◌}
use borrow.Author.Tests.{eq-eqb, ne_eqb}
use lib.ListN.{length-drop}
use lib.Seq.{drop-drop}
use Rattle.ground.specs.Said.{Said, says, refuses, answer_of}
use Rattle.ground.proofs.Walk.{rest}
use Rattle.config_rules.specs.declared.Config.{Config}
use Rattle.config_rules.specs.Inner.{Ready}
use Rattle.model.specs.declared.Refusal.{Refusal}
use Rattle.config.specs.Inner.{line_left, told_in_line, Step, stepped, step_of}
use Rattle.config_rules.specs.declared.Rule.{Rule}
use Rattle.line_fields.specs.declared.Fault.{Fault}
use Rattle.ground.proofs.Cases.{clash}
use Rattle.config.specs.Reading.{Place, said_of, refused_in}
use Rattle.config.proofs.StepLaws.{step-within, step-ready}
use Rattle.config.proofs.PaperLaws.{rest_goes, rest-stops, rest-ends, paper-agrees, paper-long}
use Rattle.config.proofs.read_config.Goals as goal
use Rattle.config.proofs.read_config.Goals.{After-take_step, In_ok-used}

pub returns-then-cfg-gt65536 : goal.returns-then-cfg-gt65536
returns-then-cfg-gt65536 c = rw (c.refused.ensures, paper-long _ c.if-cfg-gt65536.true)

pub loop-rule-init : goal.loop-rule-init
unfolding Ready
loop-rule-init c = (omega arith, omega arith, tt, rw c.no_config-config.ensures (paper-agrees c.args.cfg.now c.if-cfg-gt65536.false))

-- the bytes from there on
abbrev left : After-take_step → List ℕ
left c = drop c.loop-rule.at c.args.cfg.now

-- there was a line to read
lined : (c : After-take_step) → line_left c.loop-rule.rule ≡ true
lined c = rw (← c.line_left.ensures) c.loop-rule-test.true

-- what was said of it
step-told : (n : ℕ) (r : Result (ℕ × Rule) Fault) (k : Config) (x : Said Fault Step) (u : ℕ) (next : Rule) → stepped r k ≡ answer_of x → Ok (u, next) ≡ told_in_line n r → x ≡ says (record { used = u; rule = next; config = k })
step-told n (Ok (a, b)) k (says t) u next e h =
    let p : (u, next) ≡ (a, b) = cc in
    let q : u ≡ a = ap (λ (z : ℕ × Rule). z.0) p in
    let w : next ≡ b = ap (λ (z : ℕ × Rule). z.1) p in
    cc
step-told n (Ok (a, b)) k (refuses f) u next e h = clash (cc)
step-told n (Err g) k x u next e h = clash (cc)

step-stopped : (n : ℕ) (r : Result (ℕ × Rule) Fault) (k : Config) (x : Said Fault Step) (q : Refusal) → stepped r k ≡ answer_of x → Err q ≡ told_in_line n r → (f : Fault) × (x ≡ refuses f) × (refused_in n f ≡ q)
step-stopped n (Ok (a, b)) k x q e h = clash (cc)
step-stopped n (Err g) k (says t) q e h = clash (cc)
step-stopped n (Err g) k (refuses f) q e h = (g, cc, cc)

-- it was judged
judged : (c : After-take_step) → stepped c.take_step.result c.take_step.new.config ≡ answer_of (step_of c.loop-rule.rule c.loop-rule.config (left c))
judged c = c.take_step.ensures.value ∙ rw rest

-- the line that was judged
abbrev line : In_ok-used → Step
line c = record { used = c.in_ok-used.used; rule = c.in_ok-used.next; config = c.take_step.new.config }

-- and is fine
fine : (c : In_ok-used) → step_of c.loop-rule.rule c.loop-rule.config (drop c.loop-rule.at c.args.cfg.now) ≡ says (line c)
fine c =
    let e : stepped c.take_step.result c.take_step.new.config ≡ answer_of (step_of c.loop-rule.rule c.loop-rule.config (drop c.loop-rule.at c.args.cfg.now)) = c.take_step.ensures.value ∙ rw rest in
    step-told c.loop-rule.n c.take_step.result _ _ c.in_ok-used.used c.in_ok-used.next e c.in_ok-used.ensures

-- so it takes a byte at least and no more than there are
within : (c : In_ok-used) → (1 ≤ c.in_ok-used.used) × (c.loop-rule.at + c.in_ok-used.used ≤ length c.args.cfg.now)
within c =
    let h = rw length-drop at (step-within c.loop-rule.rule c.loop-rule.config (drop c.loop-rule.at c.args.cfg.now) (line c) (fine c)) in
    (h.0, omega (arith, c.loop-rule.invariant.0))

pub returns-in_err-used : goal.returns-in_err-used
returns-in_err-used c =
    let l = c.loop-rule in
    let r = c.in_err-used.field-0.0 in
    let b = (goal.at.returns-in_err-used c).After-take_step in
    let q : c.from_residual.result ≡ Err r = grind arith in
    let w = step-stopped l.n c.take_step.result _ _ r (judged b) c.in_err-used.ensures in
    q ∙ sym (l.invariant.3 ∙ ap (λ (x : Said Refusal (Config × Place)). answer_of (said_of x)) (rest-stops l.rule l.config l.n (left b) w.0 (lined b) w.1) ∙ ap (λ (x : Refusal). Err x) w.2)

pub overflow_add-at : goal.overflow_add-at
overflow_add-at c =
    let w = within (goal.at.overflow_add-at c).In_ok-used in
    let h : c.loop-rule.at + c.in_ok-used.used < 2 ^ 64 = omega (arith, c.if-cfg-gt65536.false) in
    record { fits = h }

pub overflow_add-n : goal.overflow_add-n
overflow_add-n c =
    let h : c.loop-rule.n + 1 < 2 ^ 32 = omega (arith, c.loop-rule.invariant.0, c.loop-rule.invariant.1, c.if-cfg-gt65536.false) in
    record { fits = h }

pub loop-rule-smaller : goal.loop-rule-smaller
loop-rule-smaller c = omega (arith, within (goal.at.loop-rule-smaller c).In_ok-used)

pub loop-rule-preserved : goal.loop-rule-preserved
loop-rule-preserved c =
    let b = (goal.at.loop-rule-preserved c).In_ok-used in
    let l = c.loop-rule in
    let w = within b in
    let is_left : line_left l.rule ≡ true = rw (← c.line_left.ensures) c.loop-rule-test.true in (
      w.1,
      omega arith,
      step-ready l.rule l.config (drop l.at c.args.cfg.now) (line b) (fine b),
      rw (l.invariant.3, rest_goes l.rule l.config l.n (drop l.at c.args.cfg.now) (line b) is_left (fine b), drop-drop),
    )

pub returns-then-at-cfg : goal.returns-then-at-cfg
returns-then-at-cfg c =
    let l = c.loop-rule in
    let s = c.args.cfg.now in
    let z : length s - l.at ≡ 0 → ⊥ = λ e. c.if-at-cfg.true (omega arith) in
    let none : line_left l.rule ≡ false = rw (← c.line_left.ensures) c.loop-rule-test.false in
    rw (c.refused-then-at-cfg.ensures, l.invariant.3, rest-ends l.rule l.config l.n (drop l.at s) none, length-drop, ne_eqb _ 0 z)

pub returns : goal.returns
returns c =
    let l = c.loop-rule in
    let s = c.args.cfg.now in
    let z : length s - l.at ≡ 0 = omega (arith, c.if-at-cfg.false) in
    let none : line_left l.rule ≡ false = rw (← c.line_left.ensures) c.loop-rule-test.false in
    rw (l.invariant.3, rest-ends l.rule l.config l.n (drop l.at s) none, length-drop, eq-eqb _ 0 z)
