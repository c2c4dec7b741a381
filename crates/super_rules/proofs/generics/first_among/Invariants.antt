use Rattle.std.proofs.Common.{List, None}
use Rattle.class_world.specs.declared.world.TypeInfo.{TypeInfo}
use Rattle.rule_order.specs.Noted.{Adds}
use Rattle.type_names.specs.declared.known.JavaNames.{JavaNames}
use Rattle.type_names.specs.Known.{File}
use Rattle.type_headers.specs.Declared.{declarations}
use Rattle.super_rules.specs.Rules.{IsGenericAbove}
use Rattle.super_rules.specs.Looks.{AreEntries, AreFlags, Below}
use Rattle.super_rules.proofs.Sets.{GenericAt}
use Rattle.super_rules.proofs.generics.first_among.Given as goal

abbrev pub invariant-loop-entry : goal.invariant-loop-entry
invariant-loop-entry l = (java : JavaNames) (fs : List File) (types : List TypeInfo) → AreEntries java fs types l.entries (declarations fs) → AreFlags l.generic (IsGenericAbove java fs types)
    → Adds (Below l.entry-index (declarations fs) (GenericAt java fs types)) None l.first
