use Rattle.std.proofs.Common.{ℕ, ◌<◌, get_or}
use Rattle.program_maps.specs.Ways.{goes_to}
use Rattle.alike_lookups.specs.Lookups.{FindsAlike, sides}
use Rattle.alike_lookups.proofs.calls.each_finds_alike.Given as goal

abbrev pub invariant-loop-method : goal.invariant-loop-method
invariant-loop-method l = (i : ℕ) → i < l.method-index → FindsAlike (sides l.old l.new l.map l.strict) (get_or l.methods i 0) (goes_to l.map.methods (get_or l.methods i 0))
