use Rattle.std.proofs.Common.{◌≡◌, drop, map}
use Rattle.java_core.specs.View.{group_plain, group_row}
use Rattle.core_meaning.specs.Statements.{has_group, has_label}
use Rattle.run_statements.proofs.switches.has_group.Given as goal

abbrev pub invariant-loop-group : goal.invariant-loop-group
invariant-loop-group l =
    has_group (has_label l.number) (group_row (map group_plain (drop l.group-index l.groups))) ≡ has_group (has_label l.number) (group_row (map group_plain l.groups))
