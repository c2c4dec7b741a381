use Rattle.std.proofs.Common.{ap, ◌∙◌}
use Rattle.marked_types.proofs.Forms.{ok_as}
use Rattle.extract_constraints.specs.Told.{need_unless, where_of}
use Rattle.kept_places.specs.declared.links.Kind.TheVariants as kind
use Rattle.extract_constraints.specs.Receivers as spec
use Rattle.extract_constraints.proofs.receivers.method_use.Goals as goal

pub returns-in-None : goal.returns-in-None
returns-in-None c =
    λ k told.
    ap (λ p. spec.used_at p k (where_of c.args.at.now) c.args.m c.args.node c.args.links) c.in-None.ensures

pub returns-in-Some : goal.returns-in-Some
returns-in-Some c =
    λ k told.
    let a = where_of c.args.at.now in
    ok_as c.need_unless.result _ _
    (ap (λ b. need_unless b c.in-Some.place c.args.node kind.Member c.args.links) (c.answers_still.ensures k told)
    ∙ ap (λ p. spec.used_at p k a c.args.m c.args.node c.args.links) c.in-Some.ensures)
    c.need_unless.ensures
