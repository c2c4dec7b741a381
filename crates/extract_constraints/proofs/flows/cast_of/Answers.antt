use Rattle.std.proofs.Common.{◌≡◌, ap, arith, length, sym, ◌∙◌}
use Rattle.extract_constraints.specs.Told.{where_of}
use Rattle.extract_constraints.specs.Flows as fl
use Rattle.marked_types.proofs.Forms.{ok_as}
use Rattle.extract_constraints.proofs.flows.cast_of.Goals as goal

pub returns-in-Ok : goal.returns-in-Ok
returns-in-Ok c =
    λ k told.
    let a = where_of c.args.at.now in
    let s = c.args.s.now in
    let t = c.args.t.now in
    let all : c.in-Ok.count ≡ length c.args.at.now.reader.q.world.now.types = omega arith in
    ok_as c.equal_below.result _ _
    (ap (λ n. fl.equal_below k a s t n c.args.operand c.args.links) all ∙ sym (ap (λ o. fl.cast_of o k a s t c.args.node c.args.operand c.args.links) c.in-None.is))
    (c.equal_below.ensures k told)
