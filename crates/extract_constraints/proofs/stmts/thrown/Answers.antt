use Rattle.std.proofs.Common.{ap, sym, ◌∙◌}
use Rattle.java_core.specs.View.{plain}
use Rattle.kept_places.specs.declared.links.Kind.TheVariants as kind
use Rattle.marked_types.specs.Marked.{mentions, own_mark}
use Rattle.class_places.proofs.Steps.{pair}
use Rattle.extract_constraints.specs.Told.{where_of}
use Rattle.extract_constraints.specs.Flows as fl
use Rattle.extract_constraints.specs.Links as li
use Rattle.extract_constraints.specs.Told as tl
use Rattle.marked_types.proofs.Forms.{ok_as}
use Rattle.extract_constraints.proofs.Each.{ty_at}
use Rattle.extract_constraints.proofs.stmts.thrown.Goals as goal

pub returns-then-mentions : goal.returns-then-mentions
returns-then-mentions c =
    λ k told.
    let a = where_of c.args.at.now in
    let ls = c.args.locals.now in
    let x = plain c.args.x.now in
    ok_as c.need_maybe.result _ _
    (pair (λ o l. tl.need_maybe o c.args.node kind.Throws l) _ _ _ _ (c.own_mark.ensures ∙ ap own_mark (c.in_ok-t.ensures k told)) (c.in_ok-links.ensures k told)
    ∙ ap (λ b. li.thrown_if b k a ls x c.args.node (li.value k a ls x c.args.links)) (sym c.if-mentions.true ∙ c.mentions.ensures ∙ ap (mentions (fl.class_of a)) (ty_at c.args.x.now)))
    c.need_maybe.ensures

pub returns : goal.returns
returns c =
    λ k told.
    let a = where_of c.args.at.now in
    let ls = c.args.locals.now in
    let x = plain c.args.x.now in
    c.in_ok-links.ensures k told
    ∙ ap (λ b. li.thrown_if b k a ls x c.args.node (li.value k a ls x c.args.links)) (sym c.if-mentions.false ∙ c.mentions.ensures ∙ ap (mentions (fl.class_of a)) (ty_at c.args.x.now))
