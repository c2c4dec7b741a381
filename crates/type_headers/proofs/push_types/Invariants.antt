use Rattle.std.proofs.Common.{◌≡◌, ◌++◌, map, take}
use Rattle.java_tree.specs.View.{unit_plain, decl_plain}
use Rattle.type_headers.specs.Declared.{header}
use Rattle.type_headers.proofs.push_types.Given as goal

abbrev pub invariant-loop-class : goal.invariant-loop-class
invariant-loop-class l =
    l.types.items ≡ l.initial.types.items
    ++ map (λ d. header (record { file = record { unit = unit_plain l.unit; user = l.user }; number = 0; decl = d })) (map decl_plain (take l.class-index l.class-items))
