use Rattle.std.proofs.Common.{ap, sym, ◌∙◌}
use Rattle.java_core.specs.View.{plain}
use Rattle.marked_types.specs.Marked.{mentions}
use Rattle.class_places.proofs.Steps.{pair}
use Rattle.type_constraints.proofs.Steps.{node_at}
use Rattle.extract_constraints.specs.Told.{where_of}
use Rattle.extract_constraints.specs.Flows as fl
use Rattle.marked_types.proofs.Forms.{ok_as}
use Rattle.extract_constraints.proofs.Each.{ty_at}
use Rattle.extract_constraints.proofs.flows.walked.Goals as goal

pub returns-then-mentions : goal.returns-then-mentions
returns-then-mentions c =
    λ k told.
    let a = where_of c.args.at.now in
    let x = c.args.x.now in
    ok_as c.flow_maybe.result _ _
    (pair (λ s n. fl.flow_maybe k s c.args.t.now n c.args.links) _ _ _ _ (c.in_ok-s-2.ensures k told ∙ ap (fl.item k a) (c.in_ok-s.ensures k told)) (node_at x)
    ∙ ap (λ b. fl.walked_if b k a c.args.locals.now (plain x) c.args.t.now c.args.links) (sym c.if-mentions.true ∙ c.mentions.ensures ∙ ap (mentions (fl.class_of a)) (ty_at x)))
    (c.flow_maybe.ensures k told)

pub returns : goal.returns
returns c =
    λ k told.
    let a = where_of c.args.at.now in
    let x = c.args.x.now in
    ap (λ b. fl.walked_if b k a c.args.locals.now (plain x) c.args.t.now c.args.links) (sym c.if-mentions.false ∙ c.mentions.ensures ∙ ap (mentions (fl.class_of a)) (ty_at x))
