use Rattle.std.proofs.Common.{List, map, take}
use Rattle.java_tree.specs.View.{unit_plain}
use Rattle.rule_order.specs.First.{IsFirst}
use Rattle.type_names.specs.Known.{File}
use Rattle.type_names.specs.Rules.{Among, BreaksImport}
use Rattle.type_names.specs.Tables.{files_in, HaveHomes, StandsFor}
use Rattle.type_names.proofs.table.TypeNames.first_breach_of.Given as goal

abbrev pub invariant-loop-unit : goal.invariant-loop-unit
invariant-loop-unit l = (fs : List File) → StandsFor l.self l.java fs → HaveHomes l.self.packages (files_in l.from_user (map unit_plain l.units))
    → IsFirst (Among (λ f. Among (BreaksImport l.java fs f) f.unit.imports) (files_in l.from_user (map unit_plain (take l.unit-index l.units)))) l.found
