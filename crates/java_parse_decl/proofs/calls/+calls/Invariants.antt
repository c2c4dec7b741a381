use Rattle.std.proofs.Common.{◌≡◌, map, drop}
use Rattle.java_tree.specs.View.{stmts_plain, group_plain, group_row, catch_plain, catch_row}
use Rattle.java_parse_decl.specs.Parse as spec
use Rattle.java_parse_decl.proofs.calls.+calls.Given as goal

abbrev pub invariant-all_call_none-loop-x : goal.invariant-all_call_none-loop-x
invariant-all_call_none-loop-x l = spec.all_call_none (stmts_plain (drop l.x-index l.xs)) ≡ spec.all_call_none (stmts_plain l.xs)

abbrev pub invariant-catches_call_none-loop-catch : goal.invariant-catches_call_none-loop-catch
invariant-catches_call_none-loop-catch l =
    spec.catches_call_none (catch_row (map catch_plain (drop l.catch-index l.catches))) ≡ spec.catches_call_none (catch_row (map catch_plain l.catches))

abbrev pub invariant-groups_call_none-loop-group : goal.invariant-groups_call_none-loop-group
invariant-groups_call_none-loop-group l =
    spec.groups_call_none (group_row (map group_plain (drop l.group-index l.groups))) ≡ spec.groups_call_none (group_row (map group_plain l.groups))
