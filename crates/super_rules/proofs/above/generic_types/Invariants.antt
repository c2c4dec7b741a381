use Rattle.std.proofs.Common.{◌≡◌, map, take}
use Rattle.std.specs.Prelude.{nat_lt}
use Rattle.super_rules.proofs.above.generic_types.Given as goal

abbrev pub invariant-loop-info : goal.invariant-loop-info
invariant-loop-info l = l.marks.items ≡ map (λ info. nat_lt 0 info.params) (take l.info-index l.types)
