use Rattle.program_maps.specs.Ways.{goes_to, ways}
use Rattle.alike_tables.specs.Tables.{AllBelow, Both, IsFieldKept}
use Rattle.alike_tables.proofs.members.are_fields_kept.Given as goal

abbrev pub invariant-loop-field : goal.invariant-loop-field
invariant-loop-field l = Both l.old l.new (λ c c'. AllBelow l.field (λ k. IsFieldKept (ways l.map) c c' k (goes_to l.map.fields k)))
