use Rattle.std.proofs.Common.{sym, ap, ◌∙◌}
use Rattle.java_core.specs.View.{plain}
use Rattle.type_kinds.specs.Kinds.{ty_of}
use Rattle.type_kinds.specs.Members.{method_at}
use Rattle.thrown_exceptions.proofs.Forms.{ty_at}
use Rattle.thrown_exceptions.proofs.Steps.{ok_as}
use Rattle.type_constraints.specs.Asked.{asked}
use Rattle.type_constraints.specs.Uses as us
use Rattle.type_constraints.proofs.receivers.method_use.Goals as goal

pub returns-then-branch : goal.returns-then-branch
returns-then-branch c =
    λ f are ts ties.
    let a = asked c.args.at.now f ts in
    ok_as c.used_on.result _ _
    (ap (λ u. us.used_known a c.args.node u c.args.method (method_at c.args.at.now.q.world.now c.args.method) c.args.first) (ty_at c.args.x.now) ∙ ap (λ b. us.used_if b a c.args.node (ty_of (plain c.args.x.now)) c.args.method c.args.first) (sym c.if-branch.true ∙ c.in_ok-is_changed_object.ensures f are ts ties))
    (c.used_on.ensures f are ts ties)

pub returns : goal.returns
returns c =
    λ f are ts ties.
    let a = asked c.args.at.now f ts in
    ap (λ b. us.used_if b a c.args.node (ty_of (plain c.args.x.now)) c.args.method c.args.first) (sym c.if-branch.false ∙ c.in_ok-is_changed_object.ensures f are ts ties)
