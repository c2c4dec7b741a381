use Rattle.std.proofs.Common.{ap, arith, length, sym, ◌∙◌, ◌≤◌}
use Rattle.extract_constraints.specs.Flows as fl
use Rattle.marked_types.proofs.Forms.{ok_as}
use Rattle.extract_constraints.proofs.EqualArguments.{some_args}
use Rattle.extract_constraints.proofs.flows.arguments_at.Goals as goal

pub returns-in_ok-up-in-len1-up : goal.returns-in_ok-up-in-len1-up
returns-in_ok-up-in-len1-up c =
    λ k told.
    let s = c.args.s.now in
    let ys = c.args.ys.now in
    let long : 1 ≤ length ys = omega arith in
    ok_as c.args_equal.result _ _
    (ap (λ o. fl.args_equal o ys c.args.node c.args.links) (c.in_ok-up-in-len1-up.ensures k told)
    ∙ some_args k s c.in-Some.class ys c.args.node c.args.links long
    ∙ sym (ap (λ o. fl.arguments_at k s o ys c.args.node c.args.links) c.in-Some.is))
    c.args_equal.ensures
