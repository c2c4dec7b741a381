use Rattle.std.proofs.Common.{sym, ◌∙◌}
use Rattle.std.specs.Prelude.{◌||◌, not}
use Rattle.type_constraints.specs.Asked.{asked}
use Rattle.type_constraints.specs.Uses as us
use Rattle.type_constraints.proofs.Steps.{all_end, all_miss, all_next}
use Rattle.type_constraints.proofs.receivers.are_known.Goals as goal

pub returns-then-not-is_unseen_or_known : goal.returns-then-not-is_unseen_or_known
returns-then-not-is_unseen_or_known c =
    λ f are ts ties.
    let a = asked c.args.at.now f ts in
    all_miss (λ k. not (us.sees a k) || us.is_known a c.args.old.now k) c.args.new.now c.loop-k.k-index _ c.loop-k-test.true (sym (c.is_unseen_or_known.ensures f are ts ties) ∙ c.if-not-is_unseen_or_known.true) (c.loop-k.invariant f are ts ties)

pub loop-k-preserved : goal.loop-k-preserved
loop-k-preserved c =
    λ f are ts ties.
    let a = asked c.args.at.now f ts in
    all_next (λ k. not (us.sees a k) || us.is_known a c.args.old.now k) c.args.new.now c.loop-k.k-index _ c.loop-k-test.true (sym (c.is_unseen_or_known.ensures f are ts ties) ∙ c.if-not-is_unseen_or_known.false) (c.loop-k.invariant f are ts ties)

pub returns : goal.returns
returns c =
    λ f are ts ties.
    let a = asked c.args.at.now f ts in
    all_end (λ k. not (us.sees a k) || us.is_known a c.args.old.now k) c.args.new.now c.loop-k.k-index _ c.loop-k-test.false (c.loop-k.invariant f are ts ties)
