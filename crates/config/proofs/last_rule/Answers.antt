-- `last_rule` meets its contract.
use mathlib.Core.Path.{◌≡◌, refl}
use mathlib.Core.Bool.{false}
use Rattle.model.specs.declared.Edition.{Edition}
use Rattle.config_rules.specs.declared.Rule.{Rule}
use Rattle.config_rules.specs.declared.Rule.TheVariants.{Station, Counts, Analog, Status, Frequency, RateCount, Rate, First, Trigger, KindWord, Multiplier, Codes, Quality, Done}
use Rattle.config.specs.Inner.{last_rule}
use Rattle.config.proofs.last_rule.Goals as goal

-- every other rule
others : (e : Edition) (r : Rule) → (r ≡ Multiplier → ⊥) → (r ≡ Quality → ⊥) → false ≡ last_rule e r
others e Station m q = refl
others e Counts m q = refl
others e (Analog i) m q = refl
others e (Status i) m q = refl
others e Frequency m q = refl
others e RateCount m q = refl
others e (Rate i) m q = refl
others e First m q = refl
others e Trigger m q = refl
others e KindWord m q = refl
others e Multiplier m q = absurd (m refl)
others e Codes m q = refl
others e Quality m q = absurd (q refl)
others e Done m q = refl

pub returns-in-Multiplier : goal.returns-in-Multiplier
returns-in-Multiplier c = rw (c.ends_with_multiplier.ensures, c.in-Multiplier.is)

pub returns-in_default : goal.returns-in_default
returns-in_default c = others c.args.edition c.args.rule c.in_default.not-Multiplier c.in_default.not-Quality
