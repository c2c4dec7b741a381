use Rattle.program_maps.specs.Ways.{goes_to, ways}
use Rattle.alike_tables.specs.Tables.{AllBelow, Both, IsMethodKept}
use Rattle.alike_tables.proofs.members.are_methods_kept.Given as goal

abbrev pub invariant-loop-method : goal.invariant-loop-method
invariant-loop-method l = Both l.old l.new (λ c c'. AllBelow l.method (λ k. IsMethodKept (ways l.map) c c' k (goes_to l.map.methods k)))
