use Rattle.std.proofs.Common.{◌≡◌, List, Some, map, drop, slice_get}
use Rattle.java_tree.specs.View.{unit_plain, decl_plain}
use Rattle.type_names.specs.declared.known.JavaNames.{JavaNames}
use Rattle.type_names.specs.Known.{File}
use Rattle.type_names.specs.Tables.{StandsFor}
use Rattle.type_headers.specs.Declared.{place_of}
use Rattle.program_world.specs.Steps.{with_types, declared_in}
use Rattle.program_world.proofs.types.push_types.Given as goal

abbrev pub invariant-loop-class : goal.invariant-loop-class
invariant-loop-class l = (j : JavaNames) (fs : List File) → StandsFor l.scope.names.now j fs → slice_get fs l.scope.file ≡ Some (record { unit = unit_plain l.unit; user = l.user })
    → with_types (place_of j fs l.scope.types.now) (declared_in l.scope.file (record { unit = unit_plain l.unit; user = l.user }) (map decl_plain (drop l.class-index l.class-items))) l.world
    ≡ with_types (place_of j fs l.scope.types.now) (declared_in l.scope.file (record { unit = unit_plain l.unit; user = l.user }) (map decl_plain l.class-items)) l.initial.world
