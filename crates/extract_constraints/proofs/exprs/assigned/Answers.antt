use Rattle.std.proofs.Common.{sym, ap, ◌∙◌}
use Rattle.java_core.specs.View.{plain}
use Rattle.marked_types.specs.Marked.{mentions}
use Rattle.extract_constraints.specs.Flows.{value_to}
use Rattle.extract_constraints.specs.Links as spec
use Rattle.extract_constraints.specs.Told.{where_of}
use Rattle.marked_types.proofs.Forms.{ok_as}
use Rattle.extract_constraints.proofs.Each.{ty_at}
use Rattle.extract_constraints.proofs.exprs.assigned.Goals as goal

pub returns-then-mentions : goal.returns-then-mentions
returns-then-mentions c =
    λ k told.
    let a = where_of c.args.at.now in
    let ls = c.args.locals.now in
    let y = plain c.args.from.now in
    ok_as c.value_to.result _ _
    (ap (λ t. value_to k a ls y t c.args.links) (c.in_ok-t.ensures k told)
    ∙ ap (λ b. spec.assigned_if b k a ls (plain c.args.to.now) y c.args.links) (sym c.if-mentions.true ∙ c.mentions.ensures ∙ ap (mentions a.reading.class) (ty_at c.args.from.now)))
    (c.value_to.ensures k told)

pub returns : goal.returns
returns c =
    λ k told.
    let a = where_of c.args.at.now in
    let ls = c.args.locals.now in
    let y = plain c.args.from.now in
    ap (λ b. spec.assigned_if b k a ls (plain c.args.to.now) y c.args.links) (sym c.if-mentions.false ∙ c.mentions.ensures ∙ ap (mentions a.reading.class) (ty_at c.args.from.now))
