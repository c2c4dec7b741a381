use Rattle.std.proofs.Common.{map, ap, ◌∙◌}
use Rattle.std.specs.Prelude.{nat_lt}
use Rattle.std.proofs.lemmas.List.{take_all}
use Rattle.class_world.specs.declared.world.TypeInfo.{TypeInfo}
use Rattle.super_rules.proofs.Graphs.{both_ok, generic_flags}
use Rattle.super_rules.proofs.above.generic_types.Goals as goal

pub returns : goal.returns
returns c = λ java fs has.
    let types = c.args.types.now in
    let marked = c.as_slice.ensures.value ∙ c.loop-info.invariant ∙ ap (map (λ (info : TypeInfo). nat_lt 0 info.params)) (take_all c.loop-info.info-index types c.loop-info-test.false) in
    both_ok c.reaching.result _ _ _ (λ v long says. generic_flags java fs types has.few c.in_ok-graph.graph c.as_slice.result.now (c.in_ok-graph.ensures java fs has) marked v.items long says)
    c.reaching.ensures.len c.reaching.ensures.reach
