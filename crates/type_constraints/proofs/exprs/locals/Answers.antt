use Rattle.std.proofs.Common.{map, refl, ap, ◌∙◌}
use Rattle.std.specs.Option.{option_map}
use Rattle.java_core.specs.View.{plain, var_plain}
use Rattle.thrown_exceptions.proofs.Steps.{step}
use Rattle.type_constraints.specs.Asked.{asked}
use Rattle.type_constraints.specs.Changed as ch
use Rattle.type_constraints.specs.Constraints as co
use Rattle.type_constraints.proofs.Steps.{ended}
use Rattle.type_constraints.proofs.exprs.locals.Goals as goal

pub loop-var-preserved : goal.loop-var-preserved
loop-var-preserved c =
    λ f are ts ties.
    let a = asked c.args.at.now f ts in
    step (λ xs s. co.vars a (map var_plain xs) s) (λ v s. co.var_init a (ch.is_local c.args.at.now.change.now c.args.at.now.method v.slot v.node) v.ty (option_map plain v.init) s) (λ x xs s. refl)
    c.args.vars.now c.loop-var.var-index c.var-item.result c.loop-var.first c.in_ok-first.first _ c.loop-var-test.true c.var-item.is
    (c.in_ok-first.ensures f are ts ties ∙ ap (λ b. co.var_init a b c.var-item.result.ty (option_map plain c.var-item.result.init) c.loop-var.first) c.is_local-changes.ensures) (c.loop-var.invariant f are ts ties)

pub returns : goal.returns
returns c =
    λ f are ts ties.
    let a = asked c.args.at.now f ts in
    ended (λ xs s. co.vars a (map var_plain xs) s) (λ s. refl) c.args.vars.now c.loop-var.var-index c.loop-var.first _ c.loop-var-test.false (c.loop-var.invariant f are ts ties)
