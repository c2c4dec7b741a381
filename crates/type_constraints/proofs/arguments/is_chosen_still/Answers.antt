use Rattle.std.proofs.Common.{sym, ap, ◌∙◌}
use Rattle.java_core.specs.View.{plain}
use Rattle.member_uses.specs.Targets.{named_in}
use Rattle.thrown_exceptions.proofs.Steps.{ok_as, pair}
use Rattle.type_constraints.specs.Arguments as ar
use Rattle.type_constraints.specs.Asked.{asked}
use Rattle.type_constraints.proofs.arguments.is_chosen_still.Goals as goal

pub returns-then-info : goal.returns-then-info
returns-then-info c =
    λ f are ts ties.
    let a = asked c.args.at.now f ts in
    ok_as c.each_constructs_alike.result _ _
    (pair (λ n ms. ar.each_constructs_alike a c.args.t.now n c.args.index (plain c.args.x.now) ms) _ _ _ _ c.len-arity.ensures (c.declared_in-methods.ensures f are ts ties ∙ ap (ar.declared_in a) c.class_number.ensures)
    ∙ ap (λ b. ar.is_chosen_still a c.args.free c.args.t.now c.args.info.now b c.args.index (plain c.args.x.now)) (sym c.if-info.true))
    (c.each_constructs_alike.ensures f are ts ties)

pub returns : goal.returns
returns c =
    λ f are ts ties.
    let a = asked c.args.at.now f ts in
    ok_as c.each_takes_alike.result _ _
    (ap (ar.each_takes_alike a c.args.free c.args.t.now c.args.index (plain c.args.x.now)) (c.named_in-methods.ensures f are ts ties ∙ pair (λ k n. named_in f k c.args.info.now.name n) _ _ _ _ c.holder.ensures c.len-arity.ensures)
    ∙ ap (λ b. ar.is_chosen_still a c.args.free c.args.t.now c.args.info.now b c.args.index (plain c.args.x.now)) (sym c.if-info.false))
    (c.each_takes_alike.ensures f are ts ties)
