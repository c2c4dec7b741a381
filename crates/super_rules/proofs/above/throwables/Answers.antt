use Rattle.super_rules.proofs.Graphs.{both_ok, throwable_flags}
use Rattle.super_rules.proofs.above.throwables.Goals as goal

pub returns : goal.returns
returns c = λ java fs has.
    both_ok c.reaching.result _ _ _ (λ v long says. throwable_flags java fs c.args.types.now has.few c.in_ok-graph.graph (c.in_ok-graph.ensures java fs has) v.items long says)
    c.reaching.ensures.len c.reaching.ensures.reach
