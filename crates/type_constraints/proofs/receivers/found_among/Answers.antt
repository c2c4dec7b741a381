use Rattle.std.proofs.Common.{sym, ◌∙◌}
use Rattle.type_constraints.specs.Asked.{asked}
use Rattle.type_constraints.specs.Uses as us
use Rattle.type_constraints.proofs.Steps.{find_end, find_hit, find_next}
use Rattle.type_constraints.proofs.receivers.found_among.Goals as goal

pub returns-then-may_answer : goal.returns-then-may_answer
returns-then-may_answer c =
    λ f are ts ties.
    let a = asked c.args.at.now f ts in
    find_hit (us.may_answer a c.args.m) c.args.methods.now c.loop-k.k-index _ c.loop-k-test.true (sym (c.may_answer.ensures f are ts ties) ∙ c.if-may_answer.true) (c.loop-k.invariant f are ts ties)

pub loop-k-preserved : goal.loop-k-preserved
loop-k-preserved c =
    λ f are ts ties.
    let a = asked c.args.at.now f ts in
    find_next (us.may_answer a c.args.m) c.args.methods.now c.loop-k.k-index _ c.loop-k-test.true (sym (c.may_answer.ensures f are ts ties) ∙ c.if-may_answer.false) (c.loop-k.invariant f are ts ties)

pub returns : goal.returns
returns c =
    λ f are ts ties.
    let a = asked c.args.at.now f ts in
    find_end (us.may_answer a c.args.m) c.args.methods.now c.loop-k.k-index _ c.loop-k-test.false (c.loop-k.invariant f are ts ties)
