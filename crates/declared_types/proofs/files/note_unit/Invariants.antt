use Rattle.std.proofs.Common.{◌≡◌, List, Some, map, take}
use Rattle.std.specs.Prelude.{slice_get}
use Rattle.java_tree.specs.View.{decl_plain}
use Rattle.rule_order.specs.Noted.{SomeOf, Adds}
use Rattle.type_names.specs.declared.known.JavaNames.{JavaNames}
use Rattle.type_names.specs.Known.{File}
use Rattle.type_names.specs.Tables.{StandsFor}
use Rattle.declared_types.specs.Rules.{DeclarationBreaches}
use Rattle.declared_types.specs.Looks.{declares}
use Rattle.declared_types.proofs.files.note_unit.Given as goal

abbrev pub invariant-loop-d : goal.invariant-loop-d
invariant-loop-d l = (java : JavaNames) (fs : List File) (f : File) → StandsFor l.names java fs → slice_get fs l.file ≡ Some f
    → Adds (SomeOf (map (declares l.file f) (map decl_plain (take l.d-index l.d-items))) (DeclarationBreaches java fs l.types)) l.fn.first l.first
