use Rattle.std.proofs.Common.{◌≡◌, ℕ, nat_eq, take}
use Rattle.std.specs.HashSet.{contains}
use Rattle.std.specs.List.{list_any}
use Rattle.rule_order.specs.First.{IsFirst}
use Rattle.type_names.specs.declared.known.Known.{Known}
use Rattle.type_names.specs.Searches.{TypeBreaches}
use Rattle.type_names.proofs.rules.first_type_breach.Given as goal

abbrev pub invariant-loop-known : goal.invariant-loop-known
invariant-loop-known l = record {
  names : (q : ℕ) → contains nat_eq l.seen q ≡ list_any (λ (k : Known). nat_eq k.name.0 q) (take l.known-index l.types);
  first : IsFirst (TypeBreaches (contains nat_eq l.roots) (take l.known-index l.types)) l.found;
}
