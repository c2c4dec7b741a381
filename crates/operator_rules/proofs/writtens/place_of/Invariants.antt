use Rattle.std.proofs.Common.{◌≡◌, drop}
use Rattle.std.specs.Prelude.{nat_eq}
use Rattle.std.specs.List.{position_from}
use Rattle.written_types.specs.Types.{variable}
use Rattle.operator_rules.proofs.writtens.place_of.Given as goal

abbrev pub invariant-loop-at : goal.invariant-loop-at
invariant-loop-at l = position_from (λ v. nat_eq v.0 l.name.0) l.at (drop l.at l.vars) ≡ variable l.name l.vars
