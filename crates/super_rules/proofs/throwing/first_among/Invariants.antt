use Rattle.std.proofs.Common.{List, None}
use Rattle.class_world.specs.declared.world.TypeInfo.{TypeInfo}
use Rattle.rule_order.specs.Noted.{Adds}
use Rattle.type_names.specs.declared.known.JavaNames.{JavaNames}
use Rattle.type_names.specs.Known.{File}
use Rattle.type_headers.specs.Declared.{declarations}
use Rattle.super_rules.specs.Rules.{IsAbove, IsThrowable}
use Rattle.super_rules.specs.Looks.{AreEntries, AreFlags, Below}
use Rattle.super_rules.proofs.Sets.{SuperAt}
use Rattle.super_rules.proofs.throwing.first_among.Given as goal

abbrev pub invariant-loop-at : goal.invariant-loop-at
invariant-loop-at l = (java : JavaNames) (fs : List File) (types : List TypeInfo) → AreEntries java fs types l.entries (declarations fs) → AreFlags l.cyclic (λ c. IsAbove java fs types c c)
    → AreFlags l.throwable (IsThrowable java fs types) → Adds (Below l.at (declarations fs) (SuperAt java fs types)) None l.first
