use Rattle.std.proofs.Common.{ap, refl, ◌∙◌}
use Rattle.extract_constraints.specs.Told.{where_of}
use Rattle.type_constraints.proofs.Steps.{ended}
use Rattle.extract_constraints.proofs.Numbers.{step_number}
use Rattle.extract_constraints.specs.Arguments.{call_of}
use Rattle.extract_constraints.specs.Arguments as ar
use Rattle.extract_constraints.proofs.arguments.put_in_each.Goals as goal

pub loop-m-preserved : goal.loop-m-preserved
loop-m-preserved c =
    λ k told.
    let a = where_of c.args.at.now in
    let call = call_of c.args.call.now in
    step_number (ar.put_in_each k a call) (λ m s. ar.put_in_candidate k call (ar.candidate k a call m) s) (λ m ms s. refl)
    c.args.methods.now c.loop-m.m-index c.loop-m.links c.in_ok-links.links _ c.loop-m-test.true
    (c.in_ok-links.ensures k told ∙ ap (λ o. ar.put_in_candidate k call o c.loop-m.links) (c.candidate.ensures k told))
    (c.loop-m.invariant k told)

pub returns : goal.returns
returns c =
    λ k told.
    let a = where_of c.args.at.now in
    let call = call_of c.args.call.now in
    ended (ar.put_in_each k a call) (λ s. refl) c.args.methods.now c.loop-m.m-index c.loop-m.links _ c.loop-m-test.false (c.loop-m.invariant k told)
