use Rattle.std.proofs.Common.{◌≡◌, List, map, take}
use Rattle.java_tree.specs.Plain.{SourceUnit}
use Rattle.java_tree.specs.View.{unit_plain}
use Rattle.rule_order.specs.First.{IsFirst}
use Rattle.type_names.specs.Rules.{Among}
use Rattle.type_names.specs.Searches.{UserBreaches}
use Rattle.type_names.proofs.rules.first_user_breach.Given as goal

abbrev pub invariant-loop-unit : goal.invariant-loop-unit
invariant-loop-unit l = (lib : List SourceUnit) → l.library ≡ map (λ (u : SourceUnit). u.«package») lib
    → IsFirst (Among (UserBreaches l.java (map unit_plain l.user) lib) (map unit_plain (take l.unit-index l.user))) l.found
