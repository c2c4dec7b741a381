use Rattle.std.proofs.Common.{sym, ◌∙◌}
use Rattle.std.specs.Prelude.{◌||◌, not}
use Rattle.type_kinds.specs.Members.{method_at}
use Rattle.type_constraints.specs.Asked.{asked}
use Rattle.type_constraints.specs.Declarations as de
use Rattle.type_constraints.proofs.Steps.{all_end, all_miss, all_next}
use Rattle.type_constraints.proofs.declarations.gives_for_hidden.Goals as goal

pub returns-then-not-branch : goal.returns-then-not-branch
returns-then-not-branch c =
    λ f are ts ties.
    let a = asked c.args.at.now f ts in
    all_miss (λ k. not (de.is_hidden a c.args.info.now k) || de.gives_for a c.args.t.now c.args.m c.args.info.now k (method_at c.args.at.now.q.world.now k)) c.args.methods.now c.loop-k.k-index _ c.loop-k-test.true (sym (c.in_ok-gives_if_hidden.ensures f are ts ties) ∙ c.if-not-branch.true) (c.loop-k.invariant f are ts ties)

pub loop-k-preserved : goal.loop-k-preserved
loop-k-preserved c =
    λ f are ts ties.
    let a = asked c.args.at.now f ts in
    all_next (λ k. not (de.is_hidden a c.args.info.now k) || de.gives_for a c.args.t.now c.args.m c.args.info.now k (method_at c.args.at.now.q.world.now k)) c.args.methods.now c.loop-k.k-index _ c.loop-k-test.true (sym (c.in_ok-gives_if_hidden.ensures f are ts ties) ∙ c.if-not-branch.false) (c.loop-k.invariant f are ts ties)

pub returns : goal.returns
returns c =
    λ f are ts ties.
    let a = asked c.args.at.now f ts in
    all_end (λ k. not (de.is_hidden a c.args.info.now k) || de.gives_for a c.args.t.now c.args.m c.args.info.now k (method_at c.args.at.now.q.world.now k)) c.args.methods.now c.loop-k.k-index _ c.loop-k-test.false (c.loop-k.invariant f are ts ties)
