use Rattle.std.proofs.Common.{sym, ap, ◌∙◌}
use Rattle.std.specs.Prelude.{◌||◌, not}
use Rattle.java_core.specs.View.{plain}
use Rattle.type_kinds.specs.Kinds.{ty_of}
use Rattle.type_kinds.specs.Members.{field_at}
use Rattle.thrown_exceptions.proofs.Forms.{ty_at}
use Rattle.thrown_exceptions.proofs.Steps.{ok_as}
use Rattle.type_constraints.specs.Asked.{asked}
use Rattle.type_constraints.specs.Uses as us
use Rattle.type_constraints.proofs.receivers.keeps_field.Goals as goal

pub returns-then-branch : goal.returns-then-branch
returns-then-branch c =
    λ f are ts ties.
    let a = asked c.args.at.now f ts in
    ok_as c.has_field.result _ _
    (ap (λ u. us.has_field a u c.args.field (field_at c.args.at.now.q.world.now c.args.field)) (ty_at c.args.x.now) ∙ ap (λ b. not b || us.has_field a (ty_of (plain c.args.x.now)) c.args.field (field_at c.args.at.now.q.world.now c.args.field)) (sym c.if-branch.true ∙ c.in_ok-is_changed_object.ensures f are ts ties))
    (c.has_field.ensures f are ts ties)

pub returns : goal.returns
returns c =
    λ f are ts ties.
    let a = asked c.args.at.now f ts in
    ap (λ b. not b || us.has_field a (ty_of (plain c.args.x.now)) c.args.field (field_at c.args.at.now.q.world.now c.args.field)) (sym c.if-branch.false ∙ c.in_ok-is_changed_object.ensures f are ts ties)
