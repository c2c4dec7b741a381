use Rattle.std.proofs.Common.{◌≡◌, ◌+◌, List, map, drop}
use Rattle.java_tree.specs.View.{unit_plain}
use Rattle.type_names.specs.declared.known.JavaNames.{JavaNames}
use Rattle.type_names.specs.Known.{File}
use Rattle.type_names.specs.Tables.{StandsFor, files_in}
use Rattle.type_headers.specs.Declared.{declarations_from, place_of}
use Rattle.program_world.specs.Steps.{with_types, AreFrom}
use Rattle.program_world.proofs.types.push_files.Given as goal

abbrev pub invariant-loop-at : goal.invariant-loop-at
invariant-loop-at l = (j : JavaNames) (fs : List File) → StandsFor l.scope.names.now j fs → AreFrom l.scope.file fs (files_in l.user (map unit_plain l.units))
    → with_types (place_of j fs l.scope.types.now) (declarations_from (l.scope.file + l.at) (files_in l.user (map unit_plain (drop l.at l.units)))) l.world
    ≡ with_types (place_of j fs l.scope.types.now) (declarations_from l.scope.file (files_in l.user (map unit_plain l.units))) l.initial.world
