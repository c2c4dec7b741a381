use Rattle.std.proofs.Common.{sym, ap, ◌∙◌}
use Rattle.java_core.specs.View.{plain, written}
use Rattle.marked_types.specs.Marked.{mentions}
use Rattle.type_constraints.proofs.Steps.{three, node_at}
use Rattle.extract_constraints.specs.Flows.{cast}
use Rattle.extract_constraints.specs.Links as spec
use Rattle.extract_constraints.specs.Told.{where_of}
use Rattle.marked_types.proofs.Forms.{ok_as}
use Rattle.extract_constraints.proofs.Each.{ty_at}
use Rattle.extract_constraints.proofs.exprs.converted.Goals as goal

pub returns-then-mentions : goal.returns-then-mentions
returns-then-mentions c =
    λ k told.
    let a = where_of c.args.at.now in
    let ls = c.args.locals.now in
    let x = plain c.args.x.now in
    let w = written c.args.written.now in
    ok_as c.cast.result _ _
    (three (λ s t n. cast k a s t c.args.node n c.args.links) _ _ _ _ _ _ (c.in_ok-s.ensures k told) c.in_ok-t.ensures (node_at c.args.x.now)
    ∙ ap (λ b. spec.converted_if b k a ls c.args.node w x c.args.links) (sym c.if-mentions.true ∙ c.mentions.ensures ∙ ap (mentions a.reading.class) (ty_at c.args.x.now)))
    (c.cast.ensures k told)

pub returns : goal.returns
returns c =
    λ k told.
    let a = where_of c.args.at.now in
    let ls = c.args.locals.now in
    let x = plain c.args.x.now in
    let w = written c.args.written.now in
    ap (λ b. spec.converted_if b k a ls c.args.node w x c.args.links) (sym c.if-mentions.false ∙ c.mentions.ensures ∙ ap (mentions a.reading.class) (ty_at c.args.x.now))
