use Rattle.std.proofs.Common.{◌≡◌, drop}
use Rattle.std.specs.Prelude.{◌&&◌, not}
use Rattle.std.specs.List.{list_any}
use Rattle.type_kinds.specs.Members.{method_at}
use Rattle.extract_constraints.specs.Flows.{world}
use Rattle.extract_constraints.specs.Groups as spec
use Rattle.extract_constraints.proofs.Each.{Each}
use Rattle.extract_constraints.proofs.groups.has_double.Given as goal

abbrev pub invariant-loop-j : goal.invariant-loop-j
invariant-loop-j l =
    Each l.at (λ k a. list_any (λ j. not (spec.are_tied k l.m j) && (not (spec.is_among (k.ties.family l.m) j) && spec.have_one_erasure_with k l.info (method_at (world a) j))) (drop l.j-index l.others)
    ≡ spec.has_double k a l.m l.info)
