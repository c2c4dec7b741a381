use Rattle.std.proofs.Common.{◌∙◌}
use Rattle.class_world.proofs.Generics.{flags_told}
use Rattle.class_world.proofs.below_two.base_flags.Goals as goal

pub returns : goal.returns
returns c =
    flags_told c.args.w.now c.requires c.in_ok-graph.graph c.in_ok-graph.ensures c.as_slice.result.now (c.as_slice.ensures.value ∙ c.in_ok-generic.ensures) c.in_ok-flags.flags.items
    c.in_ok-flags.ensures.len c.in_ok-flags.ensures.reach
