use Rattle.std.proofs.Common.{subst, sym}
use Rattle.java_tree.specs.declared.fault.Broken.{Broken}
use Rattle.refactor_app.specs.Refusals.{IsCheckRefusal}
use Rattle.refactor_app.specs.Refusals as refusal
use Rattle.refactor_app.proofs.check.stopped.Goals as goal

pub returns-in-Type : goal.returns-in-Type
returns-in-Type c = λ p w fs same stops.
    c.refused.ensures p w fs same (subst (λ (b : Broken). IsCheckRefusal p w b) (sym c.type_rule.ensures) (refusal.IsCheckRefusal.types _ _ (rw c.in-Type.is at stops)))

pub returns-in-Flow : goal.returns-in-Flow
returns-in-Flow c = λ p w fs same stops.
    c.refused-in-Flow.ensures p w fs same (subst (λ (b : Broken). IsCheckRefusal p w b) (sym c.flow_rule.ensures) (refusal.IsCheckRefusal.flow _ _ (rw c.in-Flow.is at stops)))
