use Rattle.std.proofs.Common.{◌≡◌, ℕ, ◌||◌, nat_eq, take}
use Rattle.std.specs.HashSet.{contains}
use Rattle.type_names.specs.Searches.{begin}
use Rattle.type_names.proofs.rules.push_roots.Given as goal

abbrev pub invariant-loop-unit : goal.invariant-loop-unit
invariant-loop-unit l = (q : ℕ) → contains nat_eq l.roots q ≡ (contains nat_eq l.initial.roots q || begin (take l.unit-index l.units) q)
