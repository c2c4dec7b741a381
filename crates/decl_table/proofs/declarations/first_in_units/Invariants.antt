use Rattle.std.proofs.Common.{Bool, map, take}
use Rattle.java_tree.specs.View.{unit_plain}
use Rattle.rule_order.specs.First.{IsFirst}
use Rattle.type_names.specs.Rules.{Among}
use Rattle.type_names.specs.Tables.{files_in}
use Rattle.decl_rules.specs.DeclaredRules.{BreaksDeclared}
use Rattle.decl_table.proofs.declarations.first_in_units.Given as goal

abbrev pub invariant-loop-unit : goal.invariant-loop-unit
invariant-loop-unit l = (user : Bool) → IsFirst (Among (λ f. BreaksDeclared f.unit) (files_in user (map unit_plain (take l.unit-index l.units)))) l.first
