use Rattle.std.proofs.Common.{◌≡◌, drop}
use Rattle.std.specs.Prelude.{◌&&◌, not}
use Rattle.std.specs.List.{list_any}
use Rattle.type_kinds.specs.Members.{method_at}
use Rattle.type_constraints.specs.Arguments.{are_tied}
use Rattle.type_constraints.specs.Declarations as spec
use Rattle.type_constraints.proofs.Each.{Each}
use Rattle.type_constraints.proofs.declarations.has_double.Given as goal

abbrev pub invariant-loop-k : goal.invariant-loop-k
invariant-loop-k l = Each l.at (λ a. list_any (λ k. not (are_tied a l.m k) && spec.have_one_erasure_with a l.info (method_at a.world k) && not (spec.is_of_family a l.m k)) (drop l.k-index l.others) ≡ spec.has_double a l.m l.info)
