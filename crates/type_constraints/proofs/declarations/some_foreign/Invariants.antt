use Rattle.std.proofs.Common.{◌≡◌, drop}
use Rattle.std.specs.List.{list_any}
use Rattle.type_kinds.specs.Members.{method_at}
use Rattle.type_constraints.specs.Declarations as spec
use Rattle.type_constraints.proofs.declarations.some_foreign.Given as goal

abbrev pub invariant-loop-k : goal.invariant-loop-k
invariant-loop-k l = list_any (λ k. spec.is_foreign_method l.w (method_at l.w k)) (drop l.k-index l.methods) ≡ list_any (λ k. spec.is_foreign_method l.w (method_at l.w k)) l.methods
