use Rattle.std.proofs.Common.{◌≡◌, ◌++◌, map, take}
use Rattle.java_tree.specs.View.{unit_plain, decl_plain}
use Rattle.type_names.specs.Known.{declared_type}
use Rattle.type_names.specs.Tables.{brief}
use Rattle.type_names.proofs.known.push_declared.Given as goal

abbrev pub invariant-loop-class : goal.invariant-loop-class
invariant-loop-class l =
    l.types.items ≡ l.initial.types.items ++ map (brief l.packages) (map (declared_type (record { unit = unit_plain l.unit; user = l.user })) (map decl_plain (take l.class-index l.class-items)))
