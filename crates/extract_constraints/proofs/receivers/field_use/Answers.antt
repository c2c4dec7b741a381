use Rattle.std.proofs.Common.{sym, ap, ◌∙◌}
use Rattle.java_core.specs.View.{plain}
use Rattle.kept_places.specs.declared.links.Kind.TheVariants as kind
use Rattle.marked_types.specs.Marked.{mentions, own_mark}
use Rattle.marked_types.proofs.Forms.{ok_as}
use Rattle.extract_constraints.proofs.Each.{ty_at}
use Rattle.extract_constraints.specs.Told.{need_maybe, where_of}
use Rattle.extract_constraints.specs.Receivers as spec
use Rattle.extract_constraints.proofs.receivers.field_use.Goals as goal

pub returns-then-mentions : goal.returns-then-mentions
returns-then-mentions c =
    λ k told.
    let a = where_of c.args.at.now in
    let ls = c.args.locals.now in
    let x = plain c.args.x.now in
    ok_as c.need_maybe.result _ _
    (ap (λ p. need_maybe p c.args.node kind.Field c.args.links) (c.own_mark.ensures ∙ ap own_mark (c.in_ok-receiver.ensures k told))
    ∙ ap (λ b. spec.field_if b k a ls x c.args.node c.args.links) (sym c.if-mentions.true ∙ c.mentions.ensures ∙ ap (mentions a.reading.class) (ty_at c.args.x.now)))
    c.need_maybe.ensures

pub returns : goal.returns
returns c =
    λ k told.
    let a = where_of c.args.at.now in
    let ls = c.args.locals.now in
    let x = plain c.args.x.now in
    ap (λ b. spec.field_if b k a ls x c.args.node c.args.links) (sym c.if-mentions.false ∙ c.mentions.ensures ∙ ap (mentions a.reading.class) (ty_at c.args.x.now))
