use Rattle.std.proofs.Common.{List, map, take}
use Rattle.java_tree.specs.View.{member_plain}
use Rattle.class_world.specs.declared.world.TypeInfo.{TypeInfo}
use Rattle.rule_order.specs.Noted.{SomeOf, Adds}
use Rattle.type_names.specs.declared.known.JavaNames.{JavaNames}
use Rattle.type_names.specs.Known.{File}
use Rattle.written_types.specs.Places.{IsPlace}
use Rattle.type_headers.specs.Declared.{Declaration, place_of}
use Rattle.super_rules.specs.Rules.{IsThrowable, ThrowsBreaches}
use Rattle.super_rules.specs.Looks.{AreFlags}
use Rattle.super_rules.proofs.throwing.note_members.Given as goal

abbrev pub invariant-loop-m : goal.invariant-loop-m
invariant-loop-m l = (java : JavaNames) (fs : List File) (types : List TypeInfo) (x : Declaration) → IsPlace l.scope (place_of java fs types x) → AreFlags l.throwable (IsThrowable java fs types)
    → Adds (SomeOf (map member_plain (take l.m-index l.members)) (ThrowsBreaches java fs types x)) l.fn.first l.first
