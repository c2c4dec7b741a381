use Rattle.std.proofs.Common.{ap, ◌∙◌}
use Rattle.class_places.proofs.Steps.{pair}
use Rattle.marked_types.proofs.Forms.{ok_as}
use Rattle.extract_constraints.specs.Declarations as de
use Rattle.extract_constraints.specs.Told as to
use Rattle.marked_types.specs.Marked as mk
use Rattle.kept_places.specs.declared.links.Kind.TheVariants as kind
use Rattle.extract_constraints.proofs.declarations.result_head.Goals as goal

pub returns-in-None : goal.returns-in-None
returns-in-None c =
    λ k told.
    ok_as c.equal_arguments.result _ _
    (ap (λ p. de.result_head k c.args.t.now c.args.u.now p (mk.head_mark c.args.u.now) c.args.node c.args.links) c.in-None.ensures)
    (c.equal_arguments.ensures k told)

pub returns-in-Some-head_mark : goal.returns-in-Some-head_mark
returns-in-Some-head_mark c =
    λ k told.
    ok_as c.step.result _ _
    (pair (λ p q. de.result_head k c.args.t.now c.args.u.now p q c.args.node c.args.links) _ _ _ _ c.in-Some.ensures c.in-Some-head_mark.ensures)
    (c.step.ensures)

pub returns-in_ok-met-in-None-head_mark : goal.returns-in_ok-met-in-None-head_mark
returns-in_ok-met-in-None-head_mark c =
    λ k told.
    ok_as c.need_unless.result _ _
    (ap (λ b. to.need_unless b c.in-Some.place c.args.node kind.Result c.args.links) (c.in_ok-met-in-None-head_mark.ensures k told) ∙ pair (λ p q. de.result_head k c.args.t.now c.args.u.now p q c.args.node c.args.links) _ _ _ _ c.in-Some.ensures c.in-None-head_mark.ensures)
    (c.need_unless.ensures)
