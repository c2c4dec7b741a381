use Rattle.std.proofs.Common.{ap, sym, ◌∙◌}
use Rattle.extract_constraints.specs.Told.{where_of}
use Rattle.java_core.specs.View.{plain}
use Rattle.marked_types.proofs.Forms.{ok_as}
use Rattle.extract_constraints.proofs.Each.{ty_at}
use Rattle.extract_constraints.specs.Arguments as ar
use Rattle.extract_constraints.specs.Flows as fl
use Rattle.marked_types.specs.Marked as mk
use Rattle.extract_constraints.proofs.arguments.receiver.Goals as goal

pub returns-then-mentions : goal.returns-then-mentions
returns-then-mentions c =
    λ k told.
    let a = where_of c.args.at.now in
    ok_as c.value_type.result _ _
    (ap (λ b. ar.receiver_if b k a c.args.locals.now (plain c.args.x.now)) (sym c.if-mentions.true ∙ c.mentions.ensures ∙ ap (mk.mentions (fl.class_of a)) (ty_at c.args.x.now)))
    (c.value_type.ensures k told)

pub returns : goal.returns
returns c =
    λ k told.
    let a = where_of c.args.at.now in
    ok_as c.copied.result _ _
    (ty_at c.args.x.now ∙ ap (λ b. ar.receiver_if b k a c.args.locals.now (plain c.args.x.now)) (sym c.if-mentions.false ∙ c.mentions.ensures ∙ ap (mk.mentions (fl.class_of a)) (ty_at c.args.x.now)))
    (c.copied.ensures)
