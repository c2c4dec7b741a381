use Rattle.std.proofs.Common.{◌≡◌, ℕ, true, nat_eq, ◌⊎◌, ◌↔◌}
use Rattle.std.specs.HashSet.{contains}
use Rattle.method_ties.proofs.Firsts.{Among}
use Rattle.inherited_rules.proofs.results.insert_all.Given as goal

abbrev pub invariant-loop-x : goal.invariant-loop-x
invariant-loop-x l = (x : ℕ) → (contains nat_eq l.set x ≡ true) ↔ ((contains nat_eq l.initial.set x ≡ true) ⊎ Among l.xs l.x-index x)
