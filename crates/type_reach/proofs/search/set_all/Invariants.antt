use Rattle.std.proofs.Common.{take}
use Rattle.type_reach.specs.declared.search.Stage.TheVariants as stage
use Rattle.type_reach.specs.Paths.{IsSet}
use Rattle.type_reach.proofs.search.set_all.Given as goal

abbrev pub invariant-loop-node : goal.invariant-loop-node
invariant-loop-node l = IsSet l.fn.stages.items l.stages.items (stage.Done l.on_cycle) (take l.node-index l.nodes)
