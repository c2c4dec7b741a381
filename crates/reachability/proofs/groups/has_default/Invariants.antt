use Rattle.std.proofs.Common.{◌≡◌, drop, map}
use Rattle.java_core.specs.View.{group_plain, group_row}
use Rattle.reachability.specs.Reached as spec
use Rattle.reachability.proofs.groups.has_default.Given as goal

abbrev pub invariant-loop-group : goal.invariant-loop-group
invariant-loop-group l = spec.has_default (group_row (map group_plain (drop l.group-index l.groups))) ≡ spec.has_default (group_row (map group_plain l.groups))
