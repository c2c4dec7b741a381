use Rattle.std.proofs.Common.{ap, arith, length, ◌∙◌, ◌≤◌}
use Rattle.extract_constraints.specs.Told.{where_of}
use Rattle.extract_constraints.specs.Flows as fl
use Rattle.marked_types.proofs.Forms.{ok_as}
use Rattle.extract_constraints.proofs.EqualArguments.{some_cast}
use Rattle.extract_constraints.proofs.flows.cast.Goals as goal

pub returns-in-len1-up : goal.returns-in-len1-up
returns-in-len1-up c =
    λ k told.
    let a = where_of c.args.at.now in
    let s = c.args.s.now in
    let t = c.args.t.now in
    let long : 1 ≤ length c.args_of.result.now = omega arith in
    ok_as c.cast_of.result _ _
    (ap (λ o. fl.cast_of o k a s t c.args.node c.args.operand c.args.links) c.head_mark.ensures
    ∙ some_cast k a s t c.args_of.result.now c.args.node c.args.operand c.args.links long
    ∙ ap (λ xs. fl.cast_to xs k a s t c.args.node c.args.operand c.args.links) c.args_of.ensures)
    (c.cast_of.ensures k told)
