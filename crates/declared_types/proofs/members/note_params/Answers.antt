use Rattle.std.proofs.Common.{[], ◌∷◌, map, take, subst, ap, ◌∙◌}
use Rattle.std.proofs.lemmas.List.{take_all, map-append}
use Rattle.java_tree.specs.Plain.{Param, TypeExpr}
use Rattle.java_tree.specs.View.{param_plain}
use Rattle.rule_order.specs.Noted.{SomeOf, Adds}
use Rattle.rule_order.proofs.Lists.{some_none}
use Rattle.written_types.specs.Breaks.{IllNamed}
use Rattle.declared_types.proofs.Lists.{some_one, some_next, taken}
use Rattle.declared_types.proofs.members.note_params.Goals as goal

abbrev type_in : Param → TypeExpr
type_in q = q.ty

pub loop-param-init : goal.loop-param-init
loop-param-init c = λ p at. some_none (IllNamed p) c.args.first

pub loop-param-preserved : goal.loop-param-preserved
loop-param-preserved c = λ p at.
    let q = param_plain c.param-item.result in
    let old = map param_plain (take c.loop-param.param-index c.args.params.now) in
    some_next (IllNamed p) (map type_in old) (q.ty ∷ []) _ c.args.first c.loop-param.first c.note_type-first.result
    (ap (map type_in) (taken param_plain c.args.params.now c.loop-param.param-index c.param-item.result c.loop-param-test.true c.param-item.is) ∙ map-append type_in old (q ∷ [])) (c.loop-param.invariant p at)
    (some_one (IllNamed p) q.ty c.loop-param.first c.note_type-first.result (c.note_type-first.ensures p at))

pub returns : goal.returns
returns c = λ p at.
    subst (λ xs. Adds (SomeOf (map type_in (map param_plain xs)) (IllNamed p)) c.args.first c.loop-param.first) (take_all c.loop-param.param-index c.args.params.now c.loop-param-test.false)
    (c.loop-param.invariant p at)
