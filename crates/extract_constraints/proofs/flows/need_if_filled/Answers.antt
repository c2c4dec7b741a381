use Rattle.std.proofs.Common.{ap, sym, ◌∙◌}
use Rattle.kept_places.specs.declared.links.Kind.TheVariants as kind
use Rattle.extract_constraints.specs.Flows as fl
use Rattle.extract_constraints.specs.Told as tl
use Rattle.marked_types.proofs.Forms.{ok_as}
use Rattle.extract_constraints.proofs.flows.need_if_filled.Goals as goal

pub returns-then-filled : goal.returns-then-filled
returns-then-filled c =
    ok_as c.need_maybe.result _ _
    (ap (λ o. tl.need_maybe o c.args.node kind.Assign c.args.links) c.head_mark.ensures ∙ sym (ap (λ b. fl.need_if_filled b c.args.t.now c.args.node c.args.links) c.if-filled.true))
    c.need_maybe.ensures
