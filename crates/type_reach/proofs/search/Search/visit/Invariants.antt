use Rattle.std.proofs.Common.{◌≡◌, Some}
use Rattle.std.specs.Prelude.{slice_get}
use Rattle.type_reach.specs.declared.search.Stage.TheVariants as stage
use Rattle.type_reach.specs.Paths.{Searches, KeepsMet, work}
use Rattle.type_reach.proofs.search.Search.visit.Given as goal

abbrev pub invariant-loop-part : goal.invariant-loop-part
invariant-loop-part l = record {
  search : Searches l.graph l.self;
  kept : KeepsMet l.fn.self.stages.items l.self.stages.items;
  met : slice_get l.self.stages.items l.node ≡ Some stage.New → ⊥;
}

abbrev pub decreases-loop-part : goal.decreases-loop-part
decreases-loop-part l = work l.graph l.self
