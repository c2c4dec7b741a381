use Rattle.std.proofs.Common.{ap, ◌∙◌}
use Rattle.java_core.specs.declared.expr.CoreForm.TheVariants as v
use Rattle.java_core.specs.declared.expr.CoreForm.TheOpen as o
use Rattle.java_core.specs.View.{plain}
use Rattle.definite_assignment.specs.Assigned as spec
use Rattle.definite_assignment.proofs.Expressions.{assigned_known}
use Rattle.definite_assignment.proofs.Oks.{whole}
use Rattle.definite_assignment.proofs.fields.+assign.Goals as goal

pub returns-in-Local : goal.returns-in-Local
returns-in-Local t c =
    let i = c.in-Local in
    whole c.give.result c.give.new.s _ _ (assigned_known c.args.to.now (v.Local i.slot) (o.Local i.slot) c.args.s.now i.is (v.outs-Local i.slot)) c.give.ensures

pub returns-in-Field : goal.returns-in-Field
returns-in-Field t c =
    let i = c.in-Field in
    whole c.give_field.result c.give_field.new.s _ _
    (ap (λ x. spec.given_field (plain x) i.field c.args.s.now) c.get.ensures ∙ assigned_known c.args.to.now (v.Field i.of i.simple i.field) (o.Field i.of i.simple i.field) c.args.s.now i.is (v.outs-Field i.of i.simple i.field))
    c.give_field.ensures

pub returns-in-Paren : goal.returns-in-Paren
returns-in-Paren t c =
    let i = c.in-Paren in
    whole c.assign.result c.assign.new.s _ _
    (ap (λ x. spec.assigned (plain x) c.args.s.now) c.get-in-Paren.ensures ∙ assigned_known c.args.to.now (v.Paren i.of) (o.Paren i.of) c.args.s.now i.is (v.outs-Paren i.of))
    c.assign.ensures
