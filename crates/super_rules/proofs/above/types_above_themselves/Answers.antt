use Rattle.std.proofs.lemmas.Result.{IfOk-weaker}
use Rattle.super_rules.proofs.Graphs.{above_flags}
use Rattle.super_rules.proofs.above.types_above_themselves.Goals as goal

pub returns : goal.returns
returns c = λ java fs has.
    IfOk-weaker c.on_cycles.result _ _ (λ v says. above_flags java fs c.args.types.now has.few c.in_ok-graph.graph (c.in_ok-graph.ensures java fs has) v.items says) c.on_cycles.ensures.cycles
