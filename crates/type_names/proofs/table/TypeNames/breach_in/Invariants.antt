use Rattle.std.proofs.Common.{◌≡◌, List, Some, take}
use Rattle.java_tree.specs.View.{unit_plain}
use Rattle.rule_order.specs.First.{IsFirst}
use Rattle.type_names.specs.Known.{File}
use Rattle.type_names.specs.Rules.{Among, BreaksImport}
use Rattle.type_names.specs.Paths.{number_in, place_in}
use Rattle.type_names.specs.Tables.{StandsFor}
use Rattle.type_names.proofs.table.TypeNames.breach_in.Given as goal

abbrev pub invariant-loop-import : goal.invariant-loop-import
invariant-loop-import l = (fs : List File) → StandsFor l.self l.java fs → number_in l.self.packages l.unit.«package» ≡ Some (place_in l.self.packages l.unit.«package»)
    → IsFirst (Among (BreaksImport l.java fs (record { unit = unit_plain l.unit; user = l.fn.from_user })) (take l.import-index l.import-items)) l.found
