use Rattle.std.proofs.Common.{◌++◌, ap, ◌∙◌}
use Rattle.member_uses.proofs.Steps.{one_candidate}
use Rattle.member_uses.proofs.methods.add_candidate.Goals as goal

pub returns-in_ok-push-in-Some : goal.returns-in_ok-push-in-Some
returns-in_ok-push-in-Some c = λ f h.
    c.in_ok-push-in-Some.ensures.ok
    ∙ ap (λ cs. c.args.done.now ++ cs)
    (one_candidate f c.args.q.now.world.now c.args.ty.now c.args.method c.in-Some.m.now c.in_ok-params-in-Some.params h.world c.in-Some.ensures.value (c.in_ok-params-in-Some.ensures f h))
