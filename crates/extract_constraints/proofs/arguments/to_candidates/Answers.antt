use Rattle.std.proofs.Common.{ap, sym, ◌∙◌}
use Rattle.extract_constraints.specs.Told.{where_of}
use Rattle.java_core.specs.View.{plain}
use Rattle.class_places.proofs.Steps.{pair}
use Rattle.type_constraints.proofs.Steps.{node_at}
use Rattle.marked_types.proofs.Forms.{ok_as}
use Rattle.extract_constraints.proofs.Each.{ty_at}
use Rattle.extract_constraints.specs.Arguments.{call_of}
use Rattle.extract_constraints.specs.Arguments as ar
use Rattle.extract_constraints.specs.Flows as fl
use Rattle.marked_types.specs.Marked as mk
use Rattle.type_kinds.specs.Kinds as kinds
use Rattle.extract_constraints.proofs.arguments.to_candidates.Goals as goal

pub returns-then-mentions : goal.returns-then-mentions
returns-then-mentions c =
    λ k told.
    let a = where_of c.args.at.now in
    let call = call_of c.args.call.now in
    ok_as c.need_each.result _ _
    (ap (λ u. ar.need_each k a call u c.in_ok-s.s c.args.index c.args.x.now.node.id c.as_slice-places.result.now c.args.links) (ty_at c.args.x.now)
    ∙ ap (λ n. ar.need_each k a call (kinds.ty_of (plain c.args.x.now)) c.in_ok-s.s c.args.index n c.as_slice-places.result.now c.args.links) (node_at c.args.x.now)
    ∙ pair (λ s ps. ar.need_each k a call (kinds.ty_of (plain c.args.x.now)) s c.args.index (kinds.node_of (plain c.args.x.now)) ps c.args.links) _ _ _ _ (c.in_ok-s.ensures k told) (c.as_slice-places.ensures ∙ c.in_ok-places.ensures ∙ ap mk.places_of (c.in_ok-s.ensures k told))
    ∙ ap (λ b. ar.chosen_if b k a c.args.locals.now call c.args.index (plain c.args.x.now) c.args.links) (sym c.if-mentions.true ∙ c.mentions.ensures ∙ ap (mk.mentions (fl.class_of a)) (ty_at c.args.x.now)))
    (c.need_each.ensures k told)

pub returns : goal.returns
returns c =
    λ k told.
    let a = where_of c.args.at.now in
    let call = call_of c.args.call.now in
    ap (λ b. ar.chosen_if b k a c.args.locals.now call c.args.index (plain c.args.x.now) c.args.links) (sym c.if-mentions.false ∙ c.mentions.ensures ∙ ap (mk.mentions (fl.class_of a)) (ty_at c.args.x.now))
