use Rattle.program_maps.specs.Ways.{goes_to, ways}
use Rattle.alike_tables.specs.Tables.{AllBelow, Both, IsTypeKept}
use Rattle.alike_tables.proofs.types.are_types_kept.Given as goal

abbrev pub invariant-loop-class : goal.invariant-loop-class
invariant-loop-class l = Both l.old l.new (λ c c'. AllBelow l.class (λ k. IsTypeKept (ways l.map) c c' k (goes_to l.map.types k)))
