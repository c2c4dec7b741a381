use Rattle.std.proofs.Common.{◌≡◌, ◌++◌, List, Some, map, take}
use Rattle.std.specs.Prelude.{slice_get}
use Rattle.super_rules.proofs.Files.{declares}
use Rattle.type_names.specs.declared.known.JavaNames.{JavaNames}
use Rattle.type_names.specs.Known.{File}
use Rattle.type_names.specs.Tables.{StandsFor}
use Rattle.type_headers.specs.Declared.{Declaration}
use Rattle.super_rules.specs.Looks.{AreEntries}
use Rattle.super_rules.proofs.entries.push_decls.Given as goal

abbrev pub invariant-loop-decl : goal.invariant-loop-decl
invariant-loop-decl l = (java : JavaNames) (fs : List File) (f : File) (xs : List Declaration) → StandsFor l.names java fs → slice_get fs l.file ≡ Some f → f.user ≡ l.user
    → AreEntries java fs l.types l.fn.entries.items xs
    → AreEntries java fs l.types l.entries.items (xs ++ map (declares l.file f) (take l.decl-index l.decl-items))
