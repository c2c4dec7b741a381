use Rattle.std.proofs.Common.{map, take, List}
use Rattle.java_tree.specs.View.{unit_plain}
use Rattle.rule_order.specs.First.{IsFirst}
use Rattle.type_names.specs.declared.known.JavaNames as spec
use Rattle.type_names.specs.Known.{File}
use Rattle.type_names.specs.Rules.{Among}
use Rattle.type_names.specs.Tables.{StandsFor, files_in}
use Rattle.decl_table.specs.Program.{PlainBreaches}
use Rattle.decl_table.specs.Files.{StandAt}
use Rattle.decl_table.proofs.scope.first_of_units.Given as goal

abbrev pub invariant-loop-at : goal.invariant-loop-at
invariant-loop-at l = (j : spec.JavaNames) (fs : List File) → StandsFor l.meant j fs → StandAt fs l.before (files_in l.user (map unit_plain l.units))
    → IsFirst (Among (PlainBreaches l.names j fs l.types) (files_in l.user (map unit_plain (take l.at l.units)))) l.first
