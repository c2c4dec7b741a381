use Rattle.std.proofs.Common.{Bool, ◌*◌, ◌+◌, drop, ◌≡◌}
use Rattle.std.specs.Option.{option_map}
use Rattle.java_tree.specs.View.{plain, plains, maybe}
use Rattle.tree_numbers.specs.Sizes as size
use Rattle.java_tree.specs.declared.tree.Name.{Name}
use Rattle.decl_rules.specs.Generic.{Told}
use Rattle.decl_rules.specs.Walk as spec
use Rattle.decl_rules.proofs.exprs.+exprs.Given as goal

abbrev pub decreases-walk_expr : goal.decreases-walk_expr
decreases-walk_expr g l = 2 * size.expr (plain l.e.now)

abbrev pub decreases-walk_maybe : goal.decreases-walk_maybe
decreases-walk_maybe g l = 2 * size.maybe (maybe (option_map plain l.e.now)) + 1

abbrev pub decreases-walk_exprs : goal.decreases-walk_exprs
decreases-walk_exprs g l = 2 * size.exprs (plains l.es.now) + 1

abbrev pub invariant-walk_exprs-loop-e : goal.invariant-walk_exprs-loop-e
invariant-walk_exprs-loop-e g l = (generic : Name → Bool) → Told (g.G.GenericNames.answers l.generics.names.now) generic → spec.exprs (spec.is_nested generic l.generics.vars.now) (plains (drop l.e-index l.es)) l.first ≡ spec.exprs (spec.is_nested generic l.generics.vars.now) (plains l.es) l.fn.first
