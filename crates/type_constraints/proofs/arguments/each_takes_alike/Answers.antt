use Rattle.std.proofs.Common.{sym, ◌∙◌}
use Rattle.std.specs.Prelude.{◌||◌, not}
use Rattle.java_core.specs.View.{plain}
use Rattle.type_kinds.specs.Members.{method_at}
use Rattle.type_constraints.specs.Arguments as ar
use Rattle.type_constraints.specs.Asked.{asked}
use Rattle.type_constraints.proofs.Steps.{all_end, all_miss, all_next}
use Rattle.type_constraints.proofs.arguments.each_takes_alike.Goals as goal

pub returns-then-not-branch : goal.returns-then-not-branch
returns-then-not-branch c =
    λ f are ts ties.
    let a = asked c.args.at.now f ts in
    all_miss (λ k. not (ar.is_open a c.args.free k) || ar.known_takes_alike a c.args.t.now c.args.index (plain c.args.x.now) (method_at c.args.at.now.q.world.now k)) c.args.methods.now c.loop-k.k-index _ c.loop-k-test.true (sym (c.in_ok-open_takes_alike.ensures f are ts ties) ∙ c.if-not-branch.true) (c.loop-k.invariant f are ts ties)

pub loop-k-preserved : goal.loop-k-preserved
loop-k-preserved c =
    λ f are ts ties.
    let a = asked c.args.at.now f ts in
    all_next (λ k. not (ar.is_open a c.args.free k) || ar.known_takes_alike a c.args.t.now c.args.index (plain c.args.x.now) (method_at c.args.at.now.q.world.now k)) c.args.methods.now c.loop-k.k-index _ c.loop-k-test.true (sym (c.in_ok-open_takes_alike.ensures f are ts ties) ∙ c.if-not-branch.false) (c.loop-k.invariant f are ts ties)

pub returns : goal.returns
returns c =
    λ f are ts ties.
    let a = asked c.args.at.now f ts in
    all_end (λ k. not (ar.is_open a c.args.free k) || ar.known_takes_alike a c.args.t.now c.args.index (plain c.args.x.now) (method_at c.args.at.now.q.world.now k)) c.args.methods.now c.loop-k.k-index _ c.loop-k-test.false (c.loop-k.invariant f are ts ties)
