use Rattle.std.proofs.Common.{◌≡◌, ℕ, ◌<◌, [], Some}
use Rattle.std.specs.Prelude.{slice_get}
use Rattle.type_reach.specs.declared.search.Stage.TheVariants as stage
use Rattle.type_reach.specs.Paths.{Searches}
use Rattle.type_reach.proofs.cycles.on_cycles.Given as goal

abbrev pub invariant-loop-node : goal.invariant-loop-node
invariant-loop-node l = record {
  search : Searches l.graph l.search;
  rests : l.search.parts.items ≡ [];
  met : (a : ℕ) → a < l.node → slice_get l.search.stages.items a ≡ Some stage.New → ⊥;
}
