use Rattle.std.proofs.Common.{ℕ, ◌<◌}
use Rattle.alike_lookups.specs.Lookups.{sides}
use Rattle.alike_lookups.specs.Families.{FamilyFindsAlike}
use Rattle.alike_lookups.proofs.calls.all_find_alike.Given as goal

abbrev pub invariant-loop-method : goal.invariant-loop-method
invariant-loop-method l = (k : ℕ) → k < l.method → FamilyFindsAlike (sides l.old l.new l.map l.strict) k
