use Rattle.std.proofs.Common.{◌≡◌, ap, ◌∙◌}
use Rattle.java_core.specs.View.{plain}
use Rattle.type_kinds.specs.Kinds.{node_of, ty_of}
use Rattle.marked_types.specs.Marked.{head_class, head_mark, is_number}
use Rattle.class_places.proofs.Steps.{pair}
use Rattle.type_constraints.proofs.Steps.{node_at}
use Rattle.extract_constraints.specs.Told.{where_of}
use Rattle.extract_constraints.specs.Flows as fl
use Rattle.marked_types.proofs.Forms.{ok_as}
use Rattle.extract_constraints.proofs.Each.{ty_at}
use Rattle.extract_constraints.proofs.flows.known_arms.Goals as goal

pub returns : goal.returns
returns c =
    λ k told.
    let a = where_of c.args.at.now in
    let e = c.args.e.now in
    let y = c.args.yes.now in
    let z = c.args.no.now in
    let one = fl.value_type k a c.args.locals.now (plain y) in
    let two = fl.value_type k a c.args.locals.now (plain z) in
    let all = fl.value_type k a c.args.locals.now (plain e) in
    let inner : c.inner_place-inner.result ≡ fl.inner_place (is_number (head_class (ty_of (plain e))) (fl.class_of a)) (node_of (plain e))
    = c.inner_place-inner.ensures ∙ pair fl.inner_place _ _ _ _ (c.is_number.ensures ∙ ap (λ o. is_number o (fl.class_of a)) (c.head_class.ensures ∙ ap head_class (ty_at e))) (node_at e) in
    let heads : c.in_ok-links.links ≡ fl.arm_heads k (head_mark one) (head_mark two) (ty_of (plain y)) (ty_of (plain z)) (fl.inner_place (is_number (head_class (ty_of (plain e))) (fl.class_of a)) (node_of (plain e))) (node_of (plain e)) c.args.links
    = c.in_ok-links.ensures k told
    ∙ pair (λ o q. fl.arm_heads k o q y.ty z.ty c.inner_place-inner.result e.node.id c.args.links) _ _ _ _ (c.head_mark-one.ensures ∙ ap head_mark (c.in_ok-first.ensures k told)) (c.head_mark-other.ensures ∙ ap head_mark (c.in_ok-second.ensures k told))
    ∙ pair (λ s t. fl.arm_heads k (head_mark one) (head_mark two) s t c.inner_place-inner.result e.node.id c.args.links) _ _ _ _ (ty_at y) (ty_at z)
    ∙ pair (λ o n. fl.arm_heads k (head_mark one) (head_mark two) (ty_of (plain y)) (ty_of (plain z)) o n c.args.links) _ _ _ _ inner (node_at e) in
    ok_as c.equal_arguments-2.result _ _
    (pair (λ s t. fl.equal_arguments k s t z.node.id c.in_ok-links-2.links) _ _ _ _ (c.in_ok-second.ensures k told) (c.in_ok-whole.ensures k told)
    ∙ pair (λ n l. fl.equal_arguments k two all n l) _ _ _ _ (node_at z)
    (c.in_ok-links-2.ensures k told
    ∙ pair (λ s t. fl.equal_arguments k s t y.node.id c.in_ok-links.links) _ _ _ _ (c.in_ok-first.ensures k told) (c.in_ok-whole.ensures k told)
    ∙ pair (λ n l. fl.equal_arguments k one all n l) _ _ _ _ (node_at y) heads))
    (c.equal_arguments-2.ensures k told)
