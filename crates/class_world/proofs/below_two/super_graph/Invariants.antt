use Rattle.class_world.specs.declared.world.TypeInfo.{TypeInfo}
use Rattle.class_world.specs.Graphs.{AreClassesOf}
use Rattle.class_world.proofs.Generics.{ArePairsTo}
use Rattle.class_world.proofs.below_two.super_graph.Given as goal

abbrev pub invariant-loop-info : goal.invariant-loop-info
invariant-loop-info l = ArePairsTo (λ (info : TypeInfo) classes. AreClassesOf info.supers classes) l.w.types l.graph l.info-index
