use Rattle.std.proofs.Common.{List, map, take, ◌++◌}
use Rattle.java_tree.specs.View.{unit_plain}
use Rattle.type_names.specs.Known.{KnownType, File}
use Rattle.type_names.specs.Tables.{files_in, HoldsTypes, HoldsFiles, HaveHomes}
use Rattle.type_names.proofs.table.push_files.Given as goal

abbrev pub invariant-loop-unit : goal.invariant-loop-unit
invariant-loop-unit l = (ts : List KnownType) (fs : List File) → HoldsTypes l.packages l.firsts ts → HaveHomes l.packages (files_in l.user (map unit_plain l.units))
    → HoldsFiles l.packages l.java ts fs l.initial.files.items → HoldsFiles l.packages l.java ts (fs ++ files_in l.user (map unit_plain (take l.unit-index l.units))) l.files.items
