use Rattle.std.proofs.Common.{◌≡◌, drop}
use Rattle.std.specs.Prelude.{◌&&◌, not}
use Rattle.std.specs.List.{list_any}
use Rattle.type_kinds.specs.Members.{method_at}
use Rattle.type_constraints.specs.Arguments as spec
use Rattle.type_constraints.proofs.Each.{Each}
use Rattle.type_constraints.proofs.groups.is_several.Given as goal

abbrev pub invariant-loop-k : goal.invariant-loop-k
invariant-loop-k l = Each l.at (λ a. list_any (λ k. not (spec.are_tied a l.m k) && spec.differ a.facts l.info (method_at a.world k)) (drop l.k-index l.others) ≡ spec.is_several a l.m l.info)
