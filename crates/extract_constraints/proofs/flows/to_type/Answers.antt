use Rattle.std.proofs.Common.{ap, sym, ◌∙◌}
use Rattle.kept_places.specs.declared.links.Kind.TheVariants as kind
use Rattle.extract_constraints.specs.Flows as fl
use Rattle.extract_constraints.specs.Told as tl
use Rattle.marked_types.proofs.Forms.{ok_as}
use Rattle.extract_constraints.proofs.flows.to_type.Goals as goal

pub returns-in_ok-met-in-None : goal.returns-in_ok-met-in-None
returns-in_ok-met-in-None c =
    λ k told.
    ok_as c.need_unless.result _ _
    (ap (λ b. tl.need_unless b c.args.place c.args.node kind.Assign c.args.links) (c.in_ok-met-in-None.ensures k told) ∙ sym (ap (λ o. fl.to_type k c.args.place c.args.s.now c.args.t.now o c.args.node c.args.links) c.in-None.is))
    c.need_unless.ensures
