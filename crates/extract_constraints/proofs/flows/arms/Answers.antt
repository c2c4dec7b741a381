use Rattle.std.specs.Prelude.{◌||◌}
use Rattle.std.proofs.Common.{ap, sym, ◌∙◌}
use Rattle.java_core.specs.View.{plain}
use Rattle.marked_types.specs.Marked.{mentions}
use Rattle.class_places.proofs.Steps.{pair}
use Rattle.extract_constraints.specs.Told.{where_of}
use Rattle.extract_constraints.specs.Flows as fl
use Rattle.marked_types.proofs.Forms.{ok_as}
use Rattle.extract_constraints.proofs.Each.{ty_at}
use Rattle.extract_constraints.proofs.flows.arms.Goals as goal

pub returns-then-either_mentions : goal.returns-then-either_mentions
returns-then-either_mentions c =
    λ k told.
    let a = where_of c.args.at.now in
    let y = c.args.yes.now in
    let z = c.args.no.now in
    let m = mentions (fl.class_of a) in
    ok_as c.known_arms.result _ _
    (ap (λ b. fl.arms_if b k a c.args.locals.now (plain c.args.e.now) (plain y) (plain z) c.args.links) (sym c.if-either_mentions.true ∙ c.either_mentions.ensures ∙ pair (λ s t. m s || m t) _ _ _ _ (ty_at y) (ty_at z)))
    (c.known_arms.ensures k told)

pub returns : goal.returns
returns c =
    λ k told.
    let a = where_of c.args.at.now in
    let y = c.args.yes.now in
    let z = c.args.no.now in
    let m = mentions (fl.class_of a) in
    ap (λ b. fl.arms_if b k a c.args.locals.now (plain c.args.e.now) (plain y) (plain z) c.args.links) (sym c.if-either_mentions.false ∙ c.either_mentions.ensures ∙ pair (λ s t. m s || m t) _ _ _ _ (ty_at y) (ty_at z))
