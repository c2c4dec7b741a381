use Rattle.std.specs.Option.{option_map}
use Rattle.std.proofs.Common.{Bool, ◌*◌, ◌+◌, ◌≡◌, map, drop}
use Rattle.java_tree.specs.View.{stmt_plain, stmt_maybe, stmts_plain, group_plain, group_row, catch_plain, catch_row}
use Rattle.tree_numbers.specs.Sizes as size
use Rattle.java_tree.specs.declared.tree.Name.{Name}
use Rattle.decl_rules.specs.Generic.{Told}
use Rattle.decl_rules.specs.Walk as spec
use Rattle.decl_rules.proofs.stmts.+stmts.Given as goal

abbrev pub decreases-walk_stmt : goal.decreases-walk_stmt
decreases-walk_stmt g l = 2 * size.stmt (stmt_plain l.x.now)

abbrev pub decreases-walk_maybe_stmt : goal.decreases-walk_maybe_stmt
decreases-walk_maybe_stmt g l = 2 * size.maybe_stmt (stmt_maybe (option_map stmt_plain l.x.now)) + 1

abbrev pub decreases-walk_stmts : goal.decreases-walk_stmts
decreases-walk_stmts g l = 2 * size.stmts (stmts_plain l.xs.now) + 1

abbrev pub decreases-walk_group : goal.decreases-walk_group
decreases-walk_group g l = 2 * size.group (group_plain l.x.now)

abbrev pub decreases-walk_groups : goal.decreases-walk_groups
decreases-walk_groups g l = 2 * size.groups (group_row (map group_plain l.xs.now)) + 1

abbrev pub decreases-walk_catch : goal.decreases-walk_catch
decreases-walk_catch g l = 2 * size.catch (catch_plain l.x.now)

abbrev pub decreases-walk_catches : goal.decreases-walk_catches
decreases-walk_catches g l = 2 * size.catches (catch_row (map catch_plain l.xs.now)) + 1

abbrev pub invariant-walk_stmts-loop-x : goal.invariant-walk_stmts-loop-x
invariant-walk_stmts-loop-x g l = (generic : Name → Bool) → Told (g.G.GenericNames.answers l.generics.names.now) generic → spec.stmts (spec.is_nested generic l.generics.vars.now) (stmts_plain (drop l.x-index l.xs)) l.first ≡ spec.stmts (spec.is_nested generic l.generics.vars.now) (stmts_plain l.xs) l.fn.first

abbrev pub invariant-walk_groups-loop-x : goal.invariant-walk_groups-loop-x
invariant-walk_groups-loop-x g l = (generic : Name → Bool) → Told (g.G.GenericNames.answers l.generics.names.now) generic → spec.groups (spec.is_nested generic l.generics.vars.now) (group_row (map group_plain (drop l.x-index l.xs))) l.first ≡ spec.groups (spec.is_nested generic l.generics.vars.now) (group_row (map group_plain l.xs)) l.fn.first

abbrev pub invariant-walk_catches-loop-x : goal.invariant-walk_catches-loop-x
invariant-walk_catches-loop-x g l = (generic : Name → Bool) → Told (g.G.GenericNames.answers l.generics.names.now) generic → spec.catches (spec.is_nested generic l.generics.vars.now) (catch_row (map catch_plain (drop l.x-index l.xs))) l.first ≡ spec.catches (spec.is_nested generic l.generics.vars.now) (catch_row (map catch_plain l.xs)) l.fn.first
