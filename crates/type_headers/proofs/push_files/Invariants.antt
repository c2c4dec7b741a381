use Rattle.std.proofs.Common.{◌≡◌, ◌++◌, map, flat_map, take}
use Rattle.java_tree.specs.View.{unit_plain}
use Rattle.type_names.specs.Tables.{files_in}
use Rattle.type_headers.specs.Files.{headers_in}
use Rattle.type_headers.proofs.push_files.Given as goal

abbrev pub invariant-loop-unit : goal.invariant-loop-unit
invariant-loop-unit l = l.types.items ≡ l.initial.types.items ++ flat_map headers_in (files_in l.user (map unit_plain (take l.unit-index l.units)))
