use Rattle.std.proofs.Common.{ℕ, ◌<◌}
use Rattle.alike_lookups.specs.Lookups.{FindsOn, sides}
use Rattle.alike_lookups.proofs.looks.finds_on_all.Given as goal

abbrev pub invariant-loop-class : goal.invariant-loop-class
invariant-loop-class l = (k : ℕ) → k < l.class → FindsOn (sides l.old l.new l.map l.strict) l.method l.other k
