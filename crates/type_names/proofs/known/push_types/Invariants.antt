use Rattle.std.proofs.Common.{◌≡◌, ◌++◌, map, flat_map, take}
use Rattle.java_tree.specs.View.{unit_plain}
use Rattle.type_names.specs.Known.{types_in}
use Rattle.type_names.specs.Tables.{brief, files_in}
use Rattle.type_names.proofs.known.push_types.Given as goal

abbrev pub invariant-loop-unit : goal.invariant-loop-unit
invariant-loop-unit l =
    l.types.items ≡ l.initial.types.items ++ map (brief l.packages) (flat_map types_in (files_in l.user (map unit_plain (take l.unit-index l.units))))
