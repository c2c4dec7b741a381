use Rattle.std.proofs.Common.{List, map, take}
use Rattle.java_tree.specs.View.{type_plain}
use Rattle.class_world.specs.declared.world.TypeInfo.{TypeInfo}
use Rattle.rule_order.specs.Noted.{At, SomeOf, Adds}
use Rattle.type_names.specs.declared.known.JavaNames.{JavaNames}
use Rattle.type_names.specs.Known.{File}
use Rattle.written_types.specs.Places.{IsPlace}
use Rattle.written_types.specs.Breaks.{node_of}
use Rattle.type_headers.specs.Declared.{Declaration, place_of}
use Rattle.super_rules.specs.Rules.{IsThrowable, IsNoThrowable}
use Rattle.super_rules.specs.Looks.{AreFlags}
use Rattle.super_rules.proofs.throwing.note_throws.Given as goal

abbrev pub invariant-loop-y : goal.invariant-loop-y
invariant-loop-y l = (java : JavaNames) (fs : List File) (types : List TypeInfo) (x : Declaration) → IsPlace l.scope (place_of java fs types x) → AreFlags l.throwable (IsThrowable java fs types)
    → Adds (SomeOf (map type_plain (take l.y-index l.throws)) (λ y. At 2 (node_of y) (IsNoThrowable java fs types x y))) l.fn.first l.first
