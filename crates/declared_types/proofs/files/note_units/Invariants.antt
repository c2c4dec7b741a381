use Rattle.std.proofs.Common.{Bool, List, map, take}
use Rattle.java_tree.specs.View.{unit_plain}
use Rattle.rule_order.specs.Noted.{SomeOf, Adds}
use Rattle.type_names.specs.declared.known.JavaNames.{JavaNames}
use Rattle.type_names.specs.Known.{File}
use Rattle.type_names.specs.Tables.{StandsFor, files_in}
use Rattle.type_headers.specs.Declared.{declarations_from}
use Rattle.declared_types.specs.Rules.{DeclarationBreaches}
use Rattle.declared_types.specs.Looks.{StandAt}
use Rattle.declared_types.proofs.files.note_units.Given as goal

abbrev pub invariant-loop-at : goal.invariant-loop-at
invariant-loop-at l = (java : JavaNames) (fs : List File) (user : Bool) → StandsFor l.names java fs → StandAt fs l.before (files_in user (map unit_plain l.units))
    → Adds (SomeOf (declarations_from l.before (files_in user (map unit_plain (take l.at l.units)))) (DeclarationBreaches java fs l.types)) l.fn.first l.first
