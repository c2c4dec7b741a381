use Rattle.std.proofs.Common.{◌≡◌, drop}
use Rattle.std.specs.Prelude.{◌&&◌}
use Rattle.std.specs.List.{list_any}
use Rattle.type_kinds.specs.Members.{method_at}
use Rattle.extract_constraints.specs.Flows.{world}
use Rattle.extract_constraints.specs.Receivers as spec
use Rattle.extract_constraints.proofs.Each.{Each}
use Rattle.extract_constraints.proofs.receivers.is_of_object.Given as goal

abbrev pub invariant-loop-j : goal.invariant-loop-j
invariant-loop-j l =
    Each l.at (λ k a. list_any (λ j. spec.is_public_method (method_at (world a) j) && spec.is_one k l.m j) (drop l.j-index l.methods) ≡ spec.is_of_object k a l.m)
