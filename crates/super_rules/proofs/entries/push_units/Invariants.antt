use Rattle.std.proofs.Common.{◌++◌, List, map, take}
use Rattle.java_tree.specs.View.{unit_plain}
use Rattle.type_names.specs.declared.known.JavaNames.{JavaNames}
use Rattle.type_names.specs.Known.{File}
use Rattle.type_names.specs.Tables.{StandsFor, files_in}
use Rattle.type_headers.specs.Declared.{Declaration, declarations_from}
use Rattle.super_rules.specs.Looks.{StandAt, AreEntries}
use Rattle.super_rules.proofs.entries.push_units.Given as goal

abbrev pub invariant-loop-at : goal.invariant-loop-at
invariant-loop-at l = (java : JavaNames) (fs : List File) (xs : List Declaration) → StandsFor l.names java fs → StandAt fs l.before (files_in l.user (map unit_plain l.units))
    → AreEntries java fs l.types l.fn.entries.items xs → AreEntries java fs l.types l.entries.items (xs ++ declarations_from l.before (files_in l.user (map unit_plain (take l.at l.units))))
